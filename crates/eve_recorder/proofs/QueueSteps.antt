-- Each step keeps the rule.
use Rattle.std.proofs.Common.{◌⊎◌, inl, inr, ◌≡◌, ◌≢◌, ℕ, zero, suc, ◌+◌, ◌-◌, ◌≤◌, ◌<◌, true, false, true≢false, cond}
use Rattle.std.proofs.Common.{eqb, eq-eqb, ne_eqb, List, [], ◌∷◌, ◌++◌, length, set, sym, refl, ap, ◌∙◌, subst, ⊎_elim}
use Rattle.std.proofs.Common.{append_assoc, append-nil, length-append, arith}
use mathlib.Core.Option.{some, some-injective, some-ne-none}
use mathlib.Core.Logic.{dite}
use native.Mathlib.Decide.{dec_le, ℕ_discrete}
use lib.ListN.{get_elem?}
use Rattle.crossbeam_queue.specs.Fifo.{Pushes, Pops, Forks, Merges, Learns}
use Rattle.crossbeam_queue.proofs.Lists.{at_set, set_else}
use Rattle.eve_recorder.specs.declared.passes.Knowledge.{Knowledge}
use Rattle.eve_stamps.specs.Applied.{Applied}
use Rattle.eve_recorder.specs.Noted.{of_worker, IsPlaced, IsOrderly, ComeFrom}
use Rattle.eve_recorder.specs.declared.limits.TheConstants.{MOST_SEATS}
use Rattle.eve_recorder.specs.QueueRule.{StandsFor, FitsPass, FitsPasses, noting, taking, newcomer, nobody, one_less}
use Rattle.eve_recorder.specs.QueueRule.{rest_of, last_pass}
use Rattle.eve_recorder.specs.QueueRule.{no_taker, taker_of, with_last, with_taker, TakesPrefix, SeesSome, SeesAll}

pub of_worker-append : (w : ℕ) (xs ys : List Applied) → of_worker w (xs ++ ys) ≡ of_worker w xs ++ of_worker w ys
of_worker-append w [] ys = refl
of_worker-append w (x ∷ xs) ys =
    elim (eqb x.worker w) as (λ b. cond b (x ∷ of_worker w (xs ++ ys)) (of_worker w (xs ++ ys))
    ≡ cond b (x ∷ of_worker w xs) (of_worker w xs) ++ of_worker w ys)
    [ true ↦ ap (λ l. x ∷ l) (of_worker-append w xs ys) | false ↦ of_worker-append w xs ys ]

pub of_same : (w : ℕ) (x : Applied) → x.worker ≡ w → of_worker w (x ∷ []) ≡ x ∷ []
of_same w x e = ap (λ b. cond b (x ∷ []) []) (eq-eqb x.worker w e)

pub of_other : (w : ℕ) (x : Applied) → x.worker ≢ w → of_worker w (x ∷ []) ≡ []
of_other w x e = ap (λ b. cond b (x ∷ []) []) (ne_eqb x.worker w e)

pub placed_prefix : (n : ℕ) (xs ys : List Applied) → IsPlaced n (xs ++ ys) → IsPlaced n xs
placed_prefix n [] ys h = tt
placed_prefix n (x ∷ xs) ys h = (h.0, placed_prefix (suc n) xs ys h.1)

pub placed_snoc : (n : ℕ) (xs : List Applied) (x : Applied) → IsPlaced n xs → x.place ≡ n + length xs
    → IsPlaced n (xs ++ x ∷ [])
placed_snoc n [] x h e = (omega arith, tt)
placed_snoc n (y ∷ xs) x h e = (h.0, placed_snoc (suc n) xs x h.1 (omega arith))

-- of the others nothing changes
of_more : (w : ℕ) (xs : List Applied) (x : Applied) → x.worker ≢ w → of_worker w (xs ++ x ∷ []) ≡ of_worker w xs
of_more w xs x e = of_worker-append w xs (x ∷ []) ∙ ap (λ l. of_worker w xs ++ l) (of_other w x e)
    ∙ append-nil (of_worker w xs)

of_end : (w : ℕ) (xs ys : List Applied) (x : Applied) → of_worker w xs ≡ of_worker w ys → of_worker w (xs ++ x ∷ [])
    ≡ of_worker w (ys ++ x ∷ [])
of_end w xs ys x e = of_worker-append w xs (x ∷ []) ∙ ap (λ l. l ++ of_worker w (x ∷ [])) e
    ∙ sym (of_worker-append w ys (x ∷ []))

orderly_more : (all : List Applied) (x : Applied) → IsOrderly all → x.place ≡ length (of_worker x.worker all)
    → IsOrderly (all ++ x ∷ [])
orderly_more all x h e w = dite (ℕ_discrete x.worker w)
    (λ is. subst (λ l. IsPlaced 0 l)
    (sym (of_worker-append w all (x ∷ []) ∙ ap (λ l. of_worker w all ++ l) (of_same w x is)))
    (placed_snoc 0 (of_worker w all) x (h w) (e ∙ ap (λ k. length (of_worker k all)) is ∙ omega arith)))
    (λ no. subst (λ l. IsPlaced 0 l) (sym (of_more w all x no)) (h w))

pub orderly_prefix : (xs ys : List Applied) → IsOrderly (xs ++ ys) → IsOrderly xs
orderly_prefix xs ys h w = placed_prefix 0 (of_worker w xs) (of_worker w ys)
    (subst (λ l. IsPlaced 0 l) (of_worker-append w xs ys) (h w))

at_end : (l : List Knowledge) (a b : Knowledge) (j : ℕ) → get_elem? l j ≢ some b → get_elem? (l ++ a ∷ []) j ≡ some b
    → j ≡ length l
at_end [] a b zero n e = refl
at_end [] a b (suc j) n e = absurd (some-ne-none b (sym e))
at_end (x ∷ xs) a b zero n e = absurd (n e)
at_end (x ∷ xs) a b (suc j) n e = ap suc (at_end xs a b j n e)

abbrev All : (ℕ → Knowledge → Type 0) → List Knowledge → Type 0
All F views = (port : ℕ) (v : Knowledge) → get_elem? views port ≡ some v → F port v

all_set : (F : ℕ → Knowledge → Type 0) (views : List Knowledge) (port : ℕ) (w : Knowledge) → F port w
    → ((j : ℕ) (u : Knowledge) → j ≢ port → get_elem? views j ≡ some u → F j u) → All F (set views port w)
all_set F views port w mine others j u e =
    ⊎_elim (λ (x : (j ≡ port) × (w ≡ u)). subst (λ (y : ℕ × Knowledge). F y.0 y.1) (λ i. (sym x.0 i, x.1 i)) mine)
    (λ (x : (j ≢ port) × (get_elem? views j ≡ some u)). others j u x.0 x.1) (at_set views port j w u e)

-- where two lists together are empty, the first is
nothing : {A : Type 0} (xs ys : List A) → xs ++ ys ≡ [] → xs ≡ []
nothing [] ys e = refl
nothing (x ∷ xs) ys e = absurd (let f : x ∷ (xs ++ ys) ≡ [] = e in cc)

-- and so is the second
nothing_behind : {A : Type 0} (xs ys : List A) → xs ++ ys ≡ [] → ys ≡ []
nothing_behind [] ys e = e
nothing_behind (x ∷ xs) ys e = absurd (let f : x ∷ (xs ++ ys) ≡ [] = e in cc)

-- a record that stands among those of the first so many workers is of one of these
pub whose_is : (n : ℕ) (xs ys : List Applied) (x : Applied) → ComeFrom n (xs ++ (x ∷ ys)) → x.worker < n
whose_is n xs ys x h = dite (dec_le n x.worker)
    (λ le.
    let none = sym (of_worker-append x.worker xs (x ∷ ys)) ∙ h x.worker le in
    let here : of_worker x.worker (x ∷ ys) ≡ x ∷ of_worker x.worker ys =
    ap (λ b. cond b (x ∷ of_worker x.worker ys) (of_worker x.worker ys)) (eq-eqb x.worker x.worker refl) in
    let many = ap length none in
    absurd (omega (arith, many, length-append (of_worker x.worker xs) (of_worker x.worker (x ∷ ys)), ap length here)))
    (λ no. omega arith)

come_prefix : (n : ℕ) (xs ys : List Applied) → ComeFrom n (xs ++ ys) → (w : ℕ) → n ≤ w → of_worker w xs ≡ []
come_prefix n xs ys h w le = nothing (of_worker w xs) (of_worker w ys) (sym (of_worker-append w xs ys) ∙ h w le)

-- and those after it are of these too
pub come_rest : (n : ℕ) (x : Applied) (xs : List Applied) → ComeFrom n (x ∷ xs) → ComeFrom n xs
come_rest n x xs h w le = nothing_behind (of_worker w (x ∷ [])) (of_worker w xs) (sym (of_worker-append w (x ∷ []) xs)
    ∙ h w le)

pub begins : FitsPasses [] (newcomer ∷ [])
begins = record {
  workers = MOST_SEATS;
  taker = 0;
  seat = λ _. 0;
  taken = [];
  orderly = λ w. tt;
  whose = λ w le. refl;
  fits = all_set (FitsPass MOST_SEATS 0 (λ _. 0) [] []) (newcomer ∷ []) 0 newcomer
      ((λ _. (refl, refl, refl)), (λ w s. (refl, refl, refl, s.1)), λ w _. refl)
      (λ j u other e. absurd (other (at_end [] newcomer u j (λ x. some-ne-none u (sym x)) e)));
}

pub notes : (n port : ℕ) (v : Knowledge) (x : Applied) → StandsFor v x.worker
    → x.place ≡ length (of_worker x.worker v.noted)
    → Pushes FitsPasses n port v x (λ w. w ≡ noting v x)
notes n port v x stands place items views _ h at =
    let w : Knowledge = noting v x in let mine = h.fits port v at in let taken = h.taken in let all = taken ++ items in
    let me = mine.1 x.worker stands in
    let same : all ++ x ∷ [] ≡ taken ++ (items ++ x ∷ []) = append_assoc taken items (x ∷ []) in
    let F : ℕ → Knowledge → Type 0 = FitsPass h.workers h.taker h.seat taken (all ++ x ∷ []) in
    let here : F port w = (
      mine.0,
      (λ k s. let f = mine.1 k s in (f.0, of_end k v.noted all x f.1, f.2, f.3)),
      (λ k s. of_more k v.noted x (λ is. s (subst (λ i. StandsFor v i) is stands)) ∙ mine.2 k s),
    ) in
    let there : (j : ℕ) (u : Knowledge) → j ≢ port → get_elem? views j ≡ some u → F j u = λ j u other e. let f =
    h.fits j u e in (
      f.0,
      (λ k s. let g = f.1 k s in (
        g.0,
        g.1 ∙ sym (of_more k all x (λ is. other (g.0 ∙ ap h.seat (sym is) ∙ sym me.0))),
        g.2,
        g.3,
      )),
      f.2,
    ) in
    let kept : All F (set views port w) = all_set F views port w here there in
    let past : ComeFrom h.workers (all ++ x ∷ []) =
    λ k le. (let lt = me.3 in let away : x.worker ≢ k = omega arith in of_more k all x away) ∙ h.whose k le in (
      w,
      record {
        workers = h.workers;
        taker = h.taker;
        seat = h.seat;
        taken = taken;
        orderly = subst IsOrderly same (orderly_more all x h.orderly (place ∙ ap length me.1));
        whose = subst (ComeFrom h.workers) same past;
        fits = subst (λ (l : List Applied). All (FitsPass h.workers h.taker h.seat taken l) (set views port w)) same
            kept;
      },
      refl,
    )

pub takes : (port : ℕ) (v : Knowledge) → v.takes ≡ true
    → Pops FitsPasses port v (λ x w. (w ≡ taking v x) × IsOrderly w.taken × TakesPrefix w × (x.worker < v.workers))
takes port v may x items views h at =
    let w : Knowledge = taking v x in let mine = h.fits port v at in let taken = h.taken in let now = taken ++ x ∷ [] in
    let me = mine.0 may in
    let same : taken ++ (x ∷ items) ≡ now ++ items = sym (append_assoc taken (x ∷ []) items) in
    let orderly : IsOrderly (now ++ items) = subst IsOrderly same h.orderly in
    let whose : ComeFrom h.workers (now ++ items) = subst (ComeFrom h.workers) same h.whose in
    let carry : (k : ℕ) → of_worker k (taken ++ (x ∷ items)) ≡ of_worker k (now ++ items) =
    λ k. ap (of_worker k) same in
    let is : v.taken ++ x ∷ [] ≡ now = ap (λ l. l ++ x ∷ []) me.1 in
    let F : ℕ → Knowledge → Type 0 = FitsPass h.workers h.taker h.seat now (now ++ items) in
    let here : F port w = (
      (λ _. (me.0, is, me.2)),
      (λ k s. let f = mine.1 k s in (f.0, f.1 ∙ carry k, f.2, f.3)),
      mine.2,
    ) in
    let there : (j : ℕ) (u : Knowledge) → j ≢ port → get_elem? views j ≡ some u → F j u = λ j u other e. let f =
    h.fits j u e in
    ((λ t. absurd (other ((f.0 t).0 ∙ sym me.0))), (λ k s. let g = f.1 k s in (g.0, g.1 ∙ carry k, g.2, g.3)), f.2) in
    let past : (k : ℕ) → v.workers ≤ k → of_worker k w.taken ≡ [] = λ k le. ap (of_worker k) is
    ∙ come_prefix h.workers now items whose k (let e = me.2 in omega arith) in (
      w,
      record {
        workers = h.workers;
        taker = h.taker;
        seat = h.seat;
        taken = now;
        orderly = orderly;
        whose = whose;
        fits = all_set F views port w here there;
      },
      (
        refl,
        subst IsOrderly (sym is) (orderly_prefix now items orderly),
        λ k known. ⊎_elim
            (λ (s : StandsFor w k). (
              of_worker k items,
              ap (λ l. of_worker k l ++ of_worker k items) is
                  ∙ sym (of_worker-append k now items) ∙ sym (here.1 k s).1,
            ))
            (λ (le : w.workers ≤ k). (of_worker k w.noted, ap (λ l. l ++ of_worker k w.noted) (past k le))) known,
        let lt = whose_is h.workers taken items x h.whose in let e = me.2 in omega arith,
      ),
    )

snoc_end : (l : List Knowledge) (a b : Knowledge) (j : ℕ) → get_elem? (l ++ a ∷ []) j ≡ some b
    → (get_elem? l j ≡ some b)
    ⊎ ((j ≡ length l) × (a ≡ b))
snoc_end [] a b zero e = inr (refl, some-injective a b e)
snoc_end [] a b (suc j) e = absurd (some-ne-none b (sym e))
snoc_end (x ∷ xs) a b zero e = inl e
snoc_end (x ∷ xs) a b (suc j) e = ⊎_elim (λ t. inl t) (λ t. inr (ap suc t.0, t.1)) (snoc_end xs a b j e)

all_snoc : (F : ℕ → Knowledge → Type 0) (l : List Knowledge) (r : Knowledge) → All F l → F (length l) r
    → All F (l ++ r ∷ [])
all_snoc F l r old new j u e =
    ⊎_elim (λ x. old j u x) (λ (x : (j ≡ length l) × (r ≡ u)). subst (λ (y : ℕ × Knowledge). F y.0 y.1)
    (λ i. (sym x.0 i, x.1 i)) new) (snoc_end l r u j e)

-- the seat of k moves to n
abbrev moved : (ℕ → ℕ) → ℕ → ℕ → ℕ → ℕ
moved seat k n j = cond (eqb j k) n (seat j)

moved_here : (seat : ℕ → ℕ) (k n j : ℕ) → j ≡ k → moved seat k n j ≡ n
moved_here seat k n j e = ap (λ b. cond b n (seat j)) (eq-eqb j k e)

moved_else : (seat : ℕ → ℕ) (k n j : ℕ) → j ≢ k → moved seat k n j ≡ seat j
moved_else seat k n j e = ap (λ b. cond b n (seat j)) (ne_eqb j k e)

nobody_fits : (workers taker : ℕ) (seat : ℕ → ℕ) (taken all : List Applied) (port : ℕ)
    → FitsPass workers taker seat taken all port nobody
nobody_fits workers taker seat taken all port =
    ((λ t. absurd (true≢false (sym t))), (λ k s. absurd (omega arith)), λ k _. refl)

-- a pass that takes and stands for all workers, of whom none has noted anything, may say that there is one less
pub forks_absent : (port : ℕ) (v : Knowledge) → v.takes ≡ true → v.from ≡ 0 → v.below ≡ v.workers → 0 < v.below
    → v.noted ≡ [] → Forks FitsPasses port v (one_less v) nobody
forks_absent port v may all_from all_below left_over none items views h at =
    let l : Knowledge = one_less v in let mine = h.fits port v at in let me = mine.0 may in let vs : List Knowledge =
    set views port l in
    let n = h.workers - 1 in let many : v.workers ≡ h.workers = me.2 in
    let F : ℕ → Knowledge → Type 0 = FitsPass n h.taker h.seat h.taken (h.taken ++ items) in
    let left : F port l = (
      (λ _. (me.0, me.1, ap (λ k. k - 1) many)),
      (λ k s. let f = mine.1 k (s.0, omega arith) in (f.0, f.1, ap (λ k. k - 1) many, omega arith)),
      (λ k _. ap (of_worker k) none),
    ) in
    let others : (j : ℕ) (u : Knowledge) → j ≢ port → get_elem? views j ≡ some u → F j u = λ j u other e. let f =
    h.fits j u e in (
      (λ t. absurd (other ((f.0 t).0 ∙ sym me.0))),
      (λ k s. let g = f.1 k s in let lt = g.3 in absurd (other (g.0 ∙ sym (mine.1 k (omega arith, omega arith)).0))),
      f.2,
    ) in
    let past : ComeFrom n (h.taken ++ items) = λ k le. dite (dec_le h.workers k)
    (λ far. h.whose k far)
    (λ near. let s : StandsFor v k = (omega arith, omega arith) in sym (mine.1 k s).1 ∙ ap (of_worker k) none) in
    record {
      workers = n;
      taker = h.taker;
      seat = h.seat;
      taken = h.taken;
      orderly = h.orderly;
      whose = past;
      fits = all_snoc F vs nobody (all_set F views port l left others)
          (nobody_fits n h.taker h.seat h.taken (h.taken ++ items) (length vs));
    }

pub forks : (port : ℕ) (v : Knowledge) → v.from < v.below → v.noted ≡ [] → Forks FitsPasses port v (rest_of v)
    (last_pass v)
forks port v some_left none items views h at =
    let l : Knowledge = rest_of v in let r : Knowledge = last_pass v in let mine = h.fits port v at in
    let vs : List Knowledge =
    set views port l in
    let last = v.below - 1 in let me = mine.1 last (omega arith, omega arith) in
    let seat : ℕ → ℕ = moved h.seat last (length vs) in
    let F : ℕ → Knowledge → Type 0 = FitsPass h.workers h.taker seat h.taken (h.taken ++ items) in
    let left : F port l = (
      mine.0,
      (λ k s. let f = mine.1 k (s.0, omega arith) in let away : k ≢ last = omega arith in
          (f.0 ∙ sym (moved_else h.seat last (length vs) k away), f.1, f.2, f.3)),
      (λ k _. ap (of_worker k) none),
    ) in
    let others : (j : ℕ) (u : Knowledge) → j ≢ port → get_elem? views j ≡ some u → F j u = λ j u other e. let f =
    h.fits j u e in (
      f.0,
      (λ k s. let g = f.1 k s in let away : k ≢ last = λ is. other (g.0 ∙ ap h.seat is ∙ sym me.0) in
          (g.0 ∙ sym (moved_else h.seat last (length vs) k away), g.1, g.2, g.3)),
      f.2,
    ) in
    let right : F (length vs) r = (
      (λ t. absurd (true≢false (sym t))),
      (λ k s. let is : k ≡ last = omega arith in let f = mine.1 k (omega arith, omega arith) in
          (sym (moved_here h.seat last (length vs) k is), ap (of_worker k) (sym none) ∙ f.1, f.2, f.3)),
      (λ k _. refl),
    ) in
    record {
      workers = h.workers;
      taker = h.taker;
      seat = seat;
      taken = h.taken;
      orderly = h.orderly;
      whose = h.whose;
      fits = all_snoc F vs r (all_set F views port l left others) right;
    }

pub forks_taker : (port : ℕ) (v : Knowledge) → v.takes ≡ true → Forks FitsPasses port v (no_taker v) (taker_of v)
forks_taker port v may items views h at =
    let l : Knowledge = no_taker v in let r : Knowledge = taker_of v in let mine = h.fits port v at in
    let me = mine.0 may in
    let vs : List Knowledge = set views port l in
    let F : ℕ → Knowledge → Type 0 = FitsPass h.workers (length vs) h.seat h.taken (h.taken ++ items) in
    let left : F port l = ((λ t. absurd (true≢false (sym t))), mine.1, mine.2) in
    let others : (j : ℕ) (u : Knowledge) → j ≢ port → get_elem? views j ≡ some u → F j u = λ j u other e. let f =
    h.fits j u e in
    ((λ t. absurd (other ((f.0 t).0 ∙ sym me.0))), f.1, f.2) in
    let right : F (length vs) r = ((λ _. (refl, me.1, me.2)), (λ k s. absurd (omega arith)), λ k _. refl) in
    record {
      workers = h.workers;
      taker = length vs;
      seat = h.seat;
      taken = h.taken;
      orderly = h.orderly;
      whose = h.whose;
      fits = all_snoc F vs r (all_set F views port l left others) right;
    }

-- who sat at one pass sits at another
abbrev joined : (ℕ → ℕ) → ℕ → ℕ → ℕ → ℕ
joined seat from to k = cond (eqb (seat k) from) to (seat k)

joined_there : (seat : ℕ → ℕ) (from to k : ℕ) → from ≡ seat k → to ≡ joined seat from to k
joined_there seat from to k e = sym (ap (λ b. cond b to (seat k)) (eq-eqb (seat k) from (sym e)))

joined_else : (seat : ℕ → ℕ) (from to k j : ℕ) → j ≡ seat k → j ≢ from → j ≡ joined seat from to k
joined_else seat from to k j e n = e ∙ sym (ap (λ b. cond b to (seat k)) (ne_eqb (seat k) from (λ h. n (e ∙ h))))

pub merges : (port : ℕ) (v : Knowledge) (other : ℕ) (u : Knowledge) → v.from ≤ v.below → u.from ≡ v.below
    → u.from ≤ u.below
    → u.workers ≡ v.workers
    → Merges FitsPasses port v other u (with_last v u) nobody
merges port v other u fine meet ok many items views h at two at' =
    let both : Knowledge = with_last v u in let mine = h.fits port v at in let theirs =
    h.fits other u (sym (set_else views port other both two) ∙ at') in
    let all = h.taken ++ items in
    let seat : ℕ → ℕ = joined h.seat other port in
    let port_apart : port ≢ other = λ e. two (sym e) in
    let cut : (k : ℕ) → of_worker k both.noted ≡ of_worker k v.noted ++ of_worker k u.noted =
    λ k. of_worker-append k v.noted u.noted in
    let F : ℕ → Knowledge → Type 0 = FitsPass h.workers h.taker seat h.taken all in
    let Now : ℕ → Knowledge → Type 0 = λ j y. j ≢ other → F j y in
    let here : F port both = (
      mine.0,
      (λ k s. dite (dec_le v.below k)
          (λ le. let f = theirs.1 k (omega arith, s.1) in (
            joined_there h.seat other port k f.0,
            cut k
                ∙ ap (λ l. l ++ of_worker k u.noted) (mine.2 k (λ x. omega arith)) ∙ f.1,
            sym many ∙ f.2,
            f.3,
          ))
          (λ no. let f = mine.1 k (s.0, omega arith) in (
            joined_else h.seat other port k port f.0 port_apart,
            cut k
                ∙ ap (λ l. of_worker k v.noted ++ l) (theirs.2 k (λ x. omega arith)) ∙ append-nil (of_worker k v.noted)
                ∙ f.1,
            f.2,
            f.3,
          ))),
      (λ k s. cut k ∙ ap (λ l. l ++ of_worker k u.noted) (mine.2 k (λ x. s (omega arith)))
          ∙ theirs.2 k (λ x. s (omega arith))),
    ) in
    let now : All Now (set views port both) = all_set Now views port both (λ _. here)
    (λ j y _ e apart. let f = h.fits j y e in
    (f.0, (λ k s. let g = f.1 k s in (joined_else h.seat other port k j g.0 apart, g.1, g.2, g.3)), f.2)) in
    record {
      workers = h.workers;
      taker = h.taker;
      seat = seat;
      taken = h.taken;
      orderly = h.orderly;
      whose = h.whose;
      fits = all_set F (set views port both) other nobody (nobody_fits h.workers h.taker seat h.taken all other)
          (λ j y apart e. now j y e apart);
    }

pub merges_taker : (port : ℕ) (v : Knowledge) (other : ℕ) (u : Knowledge) → u.takes ≡ true → u.workers ≡ v.workers
    → Merges FitsPasses port v other u (with_taker v u) nobody
merges_taker port v other u may many items views h at two at' =
    let both : Knowledge = with_taker v u in let mine = h.fits port v at in let theirs =
    h.fits other u (sym (set_else views port other both two) ∙ at') in
    let them = theirs.0 may in let all = h.taken ++ items in
    let F : ℕ → Knowledge → Type 0 = FitsPass h.workers port h.seat h.taken all in
    let Now : ℕ → Knowledge → Type 0 = λ j y. j ≢ other → F j y in
    let now : All Now (set views port both) =
    all_set Now views port both (λ _. ((λ _. (refl, them.1, sym many ∙ them.2)), mine.1, mine.2))
    (λ j y _ e apart. let f = h.fits j y e in ((λ t. absurd (apart ((f.0 t).0 ∙ sym them.0))), f.1, f.2)) in
    record {
      workers = h.workers;
      taker = port;
      seat = h.seat;
      taken = h.taken;
      orderly = h.orderly;
      whose = h.whose;
      fits = all_set F (set views port both) other nobody (nobody_fits h.workers port h.seat h.taken all other)
          (λ j y apart e. now j y e apart);
    }

-- who takes sees what the queue holds of each worker that it stands for or that isn't there
pub learns_all : (port : ℕ) (v : Knowledge) → v.takes ≡ true → Learns FitsPasses port v (SeesAll v)
learns_all port v may items views h at =
    let mine = h.fits port v at in let me = mine.0 may in let is : h.taken ++ items ≡ v.taken ++ items =
    ap (λ l. l ++ items) (sym me.1) in (
      subst IsOrderly is h.orderly,
      λ w known. ⊎_elim
          (λ (s : StandsFor v w). (mine.1 w s).1 ∙ ap (of_worker w) is)
          (λ (le : v.workers ≤ w). mine.2 w (λ s. let f = mine.1 w s in let lt = f.3 in let e = f.2 in omega arith)
          ∙ sym (h.whose w (let e = me.2 in omega arith)) ∙ ap (of_worker w) is) known,
    )

-- what a worker knows of a full queue
pub learns_some : (port : ℕ) (v : Knowledge) → Learns FitsPasses port v (SeesSome v)
learns_some port v items views h at = let mine = h.fits port v at in (
  h.taken,
  h.orderly,
  λ w s. let f = mine.1 w s in (f.1, subst (λ n. ComeFrom n (h.taken ++ items)) (sym f.2) h.whose),
)
