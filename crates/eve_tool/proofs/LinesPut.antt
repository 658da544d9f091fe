-- What is put into a line that is sent where it is full.
use Rattle.std.proofs.Common.{◌≡◌, ◌<◌, ℕ, List, [], ◌++◌, Option, ap, sym, subst, ◌∙◌, append_assoc, append-nil}
use Rattle.std.proofs.Common.{length, refl}
use Rattle.std.specs.Io.KnownBytes.{Appends}
use Rattle.std.proofs.KnownBytes.{Appends-nil, Appends-trans}
use Rattle.eve_streams.specs.Prefix.{AppendsPrefix}
use Rattle.eve_streams.proofs.JoinedSends.{AppendsPrefix-after, AppendsPrefix-more}
use Rattle.eve_tool.specs.inner.LineSends.{PutsText}

-- nothing was sent
pub AppendsPrefix-none : (a : Option (List ℕ)) (all : List ℕ) → 0 < length all → AppendsPrefix a a all
AppendsPrefix-none a all more = record { count = 0; proper = more; appended = Appends-nil a }

-- ---- a text

-- a text was put, and nothing sent
pub puts-text : (a : Option (List ℕ)) (held kept text : List ℕ) → kept ≡ held ++ text → PutsText a a held kept text
puts-text a held kept text is = record { sent = []; appended = Appends-nil a; whole = is }

-- one text, and then another
pub puts-then : (a b c : Option (List ℕ)) (held between kept s t : List ℕ) → PutsText a b held between s
    → PutsText b c between kept t → PutsText a c held kept (s ++ t)
puts-then a b c held between kept s t first second = record {
  sent = first.sent ++ second.sent;
  appended = Appends-trans a b c first.sent second.sent first.appended second.appended;
  whole = append_assoc first.sent second.sent kept ∙ ap (λ l. first.sent ++ l) second.whole
      ∙ sym (append_assoc first.sent between t) ∙ ap (λ l. l ++ t) first.whole ∙ append_assoc held s t;
}

-- one text, and then another was stopped
pub puts-stops : (a b c : Option (List ℕ)) (held between s t : List ℕ) → PutsText a b held between s
    → AppendsPrefix b c (between ++ t) → AppendsPrefix a c (held ++ (s ++ t))
puts-stops a b c held between s t first stops =
    let joined : first.sent ++ (between ++ t) ≡ held ++ (s ++ t) =
    sym (append_assoc first.sent between t) ∙ ap (λ l. l ++ t) first.whole ∙ append_assoc held s t in
    subst (AppendsPrefix a c) joined (AppendsPrefix-after a b c first.sent (between ++ t) first.appended stops)

-- what stands and what is still to come are together what they were
pub puts-begun : (a b : Option (List ℕ)) (held begun kept left text : List ℕ) → begun ++ left ≡ held ++ text
    → PutsText a b begun kept left → PutsText a b held kept text
puts-begun a b held begun kept left text same puts = record {
  sent = puts.sent;
  appended = puts.appended;
  whole = puts.whole ∙ same;
}

-- what was put was sent, too
pub puts-sent : (a b c : Option (List ℕ)) (held kept text : List ℕ) → PutsText a b held kept text → Appends b c kept
    → Appends a c (held ++ text)
puts-sent a b c held kept text puts sent =
    subst (Appends a c) puts.whole (Appends-trans a b c puts.sent kept puts.appended sent)

-- what was put was not sent whole
pub puts-held_stops : (a b c : Option (List ℕ)) (held kept text : List ℕ) → PutsText a b held kept text
    → AppendsPrefix b c kept → AppendsPrefix a c (held ++ text)
puts-held_stops a b c held kept text puts stops =
    subst (AppendsPrefix a c) puts.whole (AppendsPrefix-after a b c puts.sent kept puts.appended stops)

-- what was held was sent, and then a text
pub puts-sent_whole : (a b c : Option (List ℕ)) (held kept text : List ℕ) → Appends a b held → kept ≡ []
    → Appends b c text → PutsText a c held kept text
puts-sent_whole a b c held kept text first none second = record {
  sent = held ++ text;
  appended = Appends-trans a b c held text first second;
  whole = ap (λ l. (held ++ text) ++ l) none ∙ append-nil (held ++ text);
}

-- ---- a text, while it is put

-- of what was held and then all of a text, some was sent, some is kept, and the rest is still to come
pub record PutsUpTo (old new : Option (List ℕ)) (held kept all left : List ℕ) : Type 0 where
  pub sent : List ℕ
  pub appended : Appends old new sent
  pub whole : sent ++ (kept ++ left) ≡ held ++ all

pub up_to-none : (a : Option (List ℕ)) (held all : List ℕ) → PutsUpTo a a held held all all
up_to-none a held all = record { sent = []; appended = Appends-nil a; whole = refl }

-- more was put
pub up_to-more : (a b c : Option (List ℕ)) (held between kept all more left : List ℕ)
    → PutsUpTo a b held between all (more ++ left) → PutsText b c between kept more → PutsUpTo a c held kept all left
up_to-more a b c held between kept all more left far puts = record {
  sent = far.sent ++ puts.sent;
  appended = Appends-trans a b c far.sent puts.sent far.appended puts.appended;
  whole = append_assoc far.sent puts.sent (kept ++ left)
      ∙ ap (λ l. far.sent ++ l) (sym (append_assoc puts.sent kept left) ∙ ap (λ l. l ++ left) puts.whole
      ∙ append_assoc between more left)
      ∙ far.whole;
}

-- it was put into the line
pub up_to-filled : (a b : Option (List ℕ)) (held between kept all to_come left : List ℕ)
    → PutsUpTo a b held between all to_come → kept ++ left ≡ between ++ to_come → PutsUpTo a b held kept all left
up_to-filled a b held between kept all to_come left far filled = record {
  sent = far.sent;
  appended = far.appended;
  whole = ap (λ l. far.sent ++ l) filled ∙ far.whole;
}

-- nothing is still to come
pub up_to-all : (a b : Option (List ℕ)) (held between kept all to_come : List ℕ)
    → PutsUpTo a b held between all to_come → kept ≡ between ++ to_come → PutsText a b held kept all
up_to-all a b held between kept all to_come far filled = record {
  sent = far.sent;
  appended = far.appended;
  whole = ap (λ l. far.sent ++ l) filled ∙ far.whole;
}

-- the rest was stopped
pub up_to-stops : (a b c : Option (List ℕ)) (held kept all more left : List ℕ)
    → PutsUpTo a b held kept all (more ++ left) → AppendsPrefix b c (kept ++ more) → AppendsPrefix a c (held ++ all)
up_to-stops a b c held kept all more left far stops =
    let rest : AppendsPrefix b c (kept ++ (more ++ left)) =
    subst (AppendsPrefix b c) (append_assoc kept more left) (AppendsPrefix-more b c (kept ++ more) left stops) in
    subst (AppendsPrefix a c) far.whole (AppendsPrefix-after a b c far.sent (kept ++ (more ++ left)) far.appended rest)

-- what is held was stopped
pub up_to-held_stops : (a b c : Option (List ℕ)) (held kept all left : List ℕ) → PutsUpTo a b held kept all left
    → AppendsPrefix b c kept → AppendsPrefix a c (held ++ all)
up_to-held_stops a b c held kept all left far stops =
    subst (AppendsPrefix a c) far.whole (AppendsPrefix-after a b c far.sent (kept ++ left) far.appended
    (AppendsPrefix-more b c kept left stops))
