-- An attempt is sound exactly where its records fit and its entries see what they must.
use Rattle.std.proofs.Common.{◌≡◌, ℕ, ◌<◌, ◌==◌, nat_lt, true, false, not, List, [], ◌∷◌, ◌++◌, map, refl, sym, subst}
use Rattle.std.proofs.Common.{ap, ◌∙◌, inl, inr, IsTrue}
use Rattle.std.proofs.lemmas.Bool.{cases_Bool, and_parts, eqb-true, eq-eqb, ne_eqb, ltb-true, cond-true, cond-false}
use Rattle.std.proofs.lemmas.Bool.{not-true, false≢true}
use Rattle.std.proofs.lemmas.List.{length-map}
use Rattle.std.specs.List.{AllByRecursion, list_any}
use Rattle.eve_smallbank.specs.Access.{Executed, Fits}
use Rattle.eve_smallbank.specs.Chain.{Table, Sees, table_after, table_after_all}
use Rattle.eve_smallbank.proofs.Members.{In, here, there, all_in, all_from_in, none_of_list_any, in_prefix, in_middle}
use Rattle.eve_smallbank.proofs.Chains.{Follows, follows_chain, chain_follows, chained_by_rows, rows_by_chain}
use Rattle.eve_grammar.specs.Trace.{Access, Attempt, Trace}
use Rattle.eve_grammar.specs.Limits.{HasLimits}
use Rattle.eve_grammar.specs.Certificate.{is_permutation, keeps_groups}
use Rattle.eve_grammar.specs.Accesses.{is_right_place}
use Rattle.eve_history.specs.Section.{Placed, settled, batch_at, request_count, is_right_certificate, is_right_access}
use Rattle.eve_history.specs.Section.{are_right_accesses}
use Rattle.eve_history.specs.SectionHistory.{history, IsRightSection, names_of}
use Rattle.eve_chains.specs.Visible.{entries_with, executed_with, executed_at, executed_by, execution}
use Rattle.eve_chains.specs.Visible.{rows_after, before_index, visible_to}
use Rattle.eve_chains.specs.Sound.{RecordsFit, EntriesSee, IsSoundAlong, SettledAreSound}
use Rattle.eve_chains.proofs.Distinct.{Distinct, Source, in_map, in_source, distinct_permutation, below_permutation}
use Rattle.eve_chains.proofs.Distinct.{in_permutation, all_of_them}
use Rattle.eve_chains.proofs.SettledAttempts.{IsRightAlone, IsComplete, settled_right, settled_complete}

abbrev pub indexes_of : List Access → List ℕ
indexes_of xs = map (λ x. x.index) xs

pub permutes : (t : Trace) (a : Attempt) → IsTrue (is_right_certificate t a)
    → is_permutation (request_count t a) a.certificate ≡ true
permutes t a h =
    (and_parts (is_permutation (request_count t a) a.certificate) _
    (and_parts (keeps_groups (batch_at t a.seq).sizes (request_count t a) a.certificate) _ h).0).0

-- ---- right access records

rest_right : (t : Trace) (a : Attempt) (before : List Access) (x : Access) (xs : List Access)
    → are_right_accesses t a before (x ∷ xs) ≡ true → are_right_accesses t a (before ++ x ∷ []) xs ≡ true
rest_right t a before x xs right =
    (and_parts (is_right_place before x) (are_right_accesses t a (before ++ x ∷ []) xs)
    (and_parts (is_right_access t a before x) _ right).1).1

index_parts : (t : Trace) (a : Attempt) (before : List Access) (x : Access) → is_right_access t a before x ≡ true
    → (x.index < request_count t a) × (list_any (λ y. y.index == x.index) before ≡ false)
index_parts t a before x own =
    let parts = and_parts (nat_lt x.index (request_count t a)) (not (list_any (λ w. w.index == x.index) before))
    (and_parts (nat_lt x.worker _) _ own).1 in
    (ltb-true x.index (request_count t a) parts.0, not-true (list_any (λ w. w.index == x.index) before) parts.1)

-- an access record has another index than those before it
other_index : (t : Trace) (a : Attempt) (before xs : List Access) (y x : Access) → are_right_accesses t a before xs
    ≡ true → In y before → In x xs → (y.index == x.index) ≡ false
other_index t a before [] y x right i j = elim j [ ]
other_index t a before (x ∷ xs) y z right i here =
    none_of_list_any (λ w. w.index == x.index) before
    (index_parts t a before x (and_parts (is_right_access t a before x) _ right).0).1 i
other_index t a before (w ∷ xs) y x right i (there j) = other_index t a (before ++ w ∷ []) xs y x
    (rest_right t a before w xs right) (in_prefix (w ∷ []) i) j

pub distinct_indexes : (t : Trace) (a : Attempt) (before xs : List Access) → are_right_accesses t a before xs ≡ true
    → Distinct (indexes_of xs)
distinct_indexes t a before [] right = tt
distinct_indexes t a before (x ∷ xs) right = (
  λ i. let s = in_source (λ (y : Access). y.index) xs i in
      false≢true (sym (other_index t a (before ++ x ∷ []) xs x s.item (rest_right t a before x xs right)
      (in_middle x before []) s.there_is) ∙ eq-eqb x.index s.item.index s.is),
  distinct_indexes t a (before ++ x ∷ []) xs (rest_right t a before x xs right),
)

index_below : (t : Trace) (a : Attempt) (before xs : List Access) (x : Access) → are_right_accesses t a before xs ≡ true
    → In x xs → x.index < request_count t a
index_below t a before [] x right i = elim i [ ]
index_below t a before (y ∷ xs) x right here =
    (index_parts t a before y (and_parts (is_right_access t a before y) _ right).0).0
index_below t a before (y ∷ xs) x right (there i) = index_below t a (before ++ y ∷ []) xs x
    (rest_right t a before y xs right) i

entries_of_access : (xs : List Access) (x : Access) → Distinct (indexes_of xs) → In x xs → entries_with xs x.index
    ≡ x.entries
entries_of_access [] x d i = elim i [ ]
entries_of_access (y ∷ xs) x d here = cond-true (y.index == y.index) y.entries (entries_with xs y.index)
    (eq-eqb y.index y.index refl)
entries_of_access (y ∷ xs) x d (there i) =
    cond-false (y.index == x.index) y.entries (entries_with xs x.index)
    (ne_eqb y.index x.index (λ e. d.0
    (subst (λ j. In j (indexes_of xs)) (sym e) (in_map (λ (z : Access). z.index) xs i))))
    ∙ entries_of_access xs x d.1 i

-- ---- a chain, place by place

in_rest : (i j : ℕ) (order : List ℕ) → (j == i) ≡ false → In i (j ∷ order) → In i order
in_rest i j order other here = absurd (false≢true (sym other ∙ eq-eqb i i refl))
in_rest i j order other (there k) = k

-- what the request with this index sees, where f is executed in this order
abbrev SeesAt : Table → (ℕ → Executed) → List ℕ → ℕ → Type 0
SeesAt table f order i = AllByRecursion (Sees (table_after_all table (map f (before_index i order)))) (f i).entries

-- at the first place
sees_first : (order : List ℕ) (i : ℕ) → before_index i (i ∷ order) ≡ []
sees_first order i = cond-true (i == i) [] (i ∷ before_index i order) (eq-eqb i i refl)

-- and at a later one
sees_later : (order : List ℕ) (i j : ℕ) → (j == i) ≡ false → before_index i (j ∷ order) ≡ j ∷ before_index i order
sees_later order i j other = cond-false (j == i) [] (j ∷ before_index i order) other

-- along a chain, the entries of an index see what the indexes before it leave
chain_at : (table : Table) (f : ℕ → Executed) (order : List ℕ) (i : ℕ) → Follows table (map f order) → In i order
    → SeesAt table f order i
chain_at table f [] i follows member = elim member [ ]
chain_at table f (j ∷ order) i follows member =
    elim (cases_Bool (j == i)) [
      | inl same ↦ subst (SeesAt table f (j ∷ order)) (eqb-true j i same)
          (subst (λ (prefix : List ℕ). AllByRecursion (Sees (table_after_all table (map f prefix))) (f j).entries)
          (sym (sees_first order j)) follows.0)
      | inr other ↦ subst (λ (prefix : List ℕ). AllByRecursion (Sees (table_after_all table (map f prefix)))
          (f i).entries)
          (sym (sees_later order i j other))
          (chain_at (table_after table (f j).entries) f order i follows.1 (in_rest i j order other member))
    ]

-- and that makes a chain
chain_from : (table : Table) (f : ℕ → Executed) (order : List ℕ) → Distinct order
    → ((i : ℕ) → In i order → SeesAt table f order i) → Follows table (map f order)
chain_from table f [] d sees = tt
chain_from table f (j ∷ order) d sees = (
  subst (λ (prefix : List ℕ). AllByRecursion (Sees (table_after_all table (map f prefix))) (f j).entries)
      (sees_first order j) (sees j here),
  chain_from (table_after table (f j).entries) f order d.1 (λ i k.
      subst (λ (prefix : List ℕ). AllByRecursion (Sees (table_after_all table (map f prefix))) (f i).entries)
      (sees_later order i j (ne_eqb j i (λ e. d.0 (subst (λ n. In n order) (sym e) k)))) (sees i (there k))),
)

-- ---- one attempt

module _ (t : Trace) (p : Placed) (right : IsRightAlone t p.attempt) where
  pub as_executed : (x : Access) → In x p.attempt.accesses → executed_at t p.attempt x.index ≡ executed_by t p.attempt x
  as_executed x i =
      ap (executed_with t p.attempt x.index)
      (entries_of_access p.attempt.accesses x (distinct_indexes t p.attempt [] p.attempt.accesses right.accesses) i)

  pub its_place : (x : Access) → In x p.attempt.accesses → In x.index p.attempt.certificate
  its_place x i =
      in_permutation (request_count t p.attempt) x.index p.attempt.certificate (permutes t p.attempt right.certificate)
      (index_below t p.attempt [] p.attempt.accesses x right.accesses i)

  -- each index has its access record
  pub its_record : IsComplete p.attempt → (i : ℕ) → In i p.attempt.certificate
      → Source (λ (x : Access). x.index) p.attempt.accesses i
  its_record complete i member =
      in_source (λ (x : Access). x.index) p.attempt.accesses
      (all_of_them (request_count t p.attempt) i (indexes_of p.attempt.accesses)
      (distinct_indexes t p.attempt [] p.attempt.accesses right.accesses)
      (λ j k. let s = in_source (λ (x : Access). x.index) p.attempt.accesses k in
      subst (λ n. n < request_count t p.attempt) (sym s.is)
      (index_below t p.attempt [] p.attempt.accesses s.item right.accesses s.there_is))
      (length-map p.attempt.accesses (λ (x : Access). x.index) ∙ complete ∙ right.indexes)
      (below_permutation (request_count t p.attempt) i p.attempt.certificate (permutes t p.attempt right.certificate)
      member))

  pub fits_alone : IsSoundAlong t p
      → AllByRecursion (λ x. Fits (names_of t) (executed_by t p.attempt x)) p.attempt.accesses
  fits_alone sound =
      all_from_in (λ x. Fits (names_of t) (executed_by t p.attempt x)) p.attempt.accesses (λ x i.
      subst (Fits (names_of t)) (as_executed x i)
      (all_in (Fits (names_of t)) sound.fits (in_map (executed_at t p.attempt) p.attempt.certificate (its_place x i))))

  pub sees_alone : IsSoundAlong t p → AllByRecursion (λ x. AllByRecursion (Sees (visible_to t p x.index)) x.entries)
      p.attempt.accesses
  sees_alone sound =
      all_from_in (λ x. AllByRecursion (Sees (visible_to t p x.index)) x.entries) p.attempt.accesses (λ x i.
      subst (λ (y : Executed). AllByRecursion (Sees (visible_to t p x.index)) y.entries) (as_executed x i)
      (chain_at (rows_after t p.path) (executed_at t p.attempt) p.attempt.certificate x.index
      (follows_chain (rows_after t p.path) [] (execution t p.attempt)
      (chained_by_rows (rows_after t p.path) [] (execution t p.attempt) sound.chained))
      (its_place x i)))

  -- what holds of the record of each index, as it was executed
  by_record : IsComplete p.attempt → (P : ℕ → Executed → Type 0)
      → AllByRecursion (λ x. P x.index (executed_by t p.attempt x)) p.attempt.accesses
      → (i : ℕ) → In i p.attempt.certificate → P i (executed_at t p.attempt i)
  by_record complete P all i member =
      let s = its_record complete i member in
      subst (λ n. P n (executed_at t p.attempt n)) (sym s.is)
      (subst (P s.item.index) (sym (as_executed s.item s.there_is))
      (all_in (λ x. P x.index (executed_by t p.attempt x)) all s.there_is))

  pub sound_alone : IsComplete p.attempt
      → AllByRecursion (λ x. Fits (names_of t) (executed_by t p.attempt x)) p.attempt.accesses
      → AllByRecursion (λ x. AllByRecursion (Sees (visible_to t p x.index)) x.entries) p.attempt.accesses
      → IsSoundAlong t p
  sound_alone complete fits sees = record {
    fits = all_from_in (Fits (names_of t)) (execution t p.attempt) (λ y i.
        let s = in_source (executed_at t p.attempt) p.attempt.certificate i in
        subst (Fits (names_of t)) (sym s.is) (by_record complete (λ _ x. Fits (names_of t) x) fits s.item s.there_is));
    chained = rows_by_chain (rows_after t p.path) [] (execution t p.attempt)
        (chain_follows (rows_after t p.path) [] (execution t p.attempt)
        (chain_from (rows_after t p.path) (executed_at t p.attempt) p.attempt.certificate
        (distinct_permutation (request_count t p.attempt) p.attempt.certificate
        (permutes t p.attempt right.certificate))
        (by_record complete (λ j x. AllByRecursion (Sees (visible_to t p j)) x.entries) sees)));
  }

-- ---- all settled attempts

pub records_fit : (t : Trace) (e : ℕ) → IsRightSection t e → SettledAreSound t e → RecordsFit t e
records_fit t e right sound =
    all_from_in (λ p. AllByRecursion (λ x. Fits (names_of t) (executed_by t p.attempt x)) p.attempt.accesses)
    (settled (history t e)) (λ p i.
    fits_alone t p (all_in (λ q. IsRightAlone t q.attempt) (settled_right t e right) i)
    (all_in (IsSoundAlong t) sound i))

pub entries_see : (t : Trace) (e : ℕ) → IsRightSection t e → SettledAreSound t e → EntriesSee t e
entries_see t e right sound =
    all_from_in (λ p. AllByRecursion (λ x. AllByRecursion (Sees (visible_to t p x.index)) x.entries) p.attempt.accesses)
    (settled (history t e)) (λ p i.
    sees_alone t p (all_in (λ q. IsRightAlone t q.attempt) (settled_right t e right) i)
    (all_in (IsSoundAlong t) sound i))

pub settled_sound : (t : Trace) (e : ℕ) → HasLimits t → IsRightSection t e → RecordsFit t e → EntriesSee t e
    → SettledAreSound t e
settled_sound t e limits right fits sees =
    all_from_in (IsSoundAlong t) (settled (history t e)) (λ p i.
    sound_alone t p (all_in (λ q. IsRightAlone t q.attempt) (settled_right t e right) i)
    (all_in (λ q. IsComplete q.attempt) (settled_complete t e limits) i)
    (all_in (λ q. AllByRecursion (λ x. Fits (names_of t) (executed_by t q.attempt x)) q.attempt.accesses) fits i)
    (all_in (λ q. AllByRecursion (λ x. AllByRecursion (Sees (visible_to t q x.index)) x.entries) q.attempt.accesses)
    sees i))
