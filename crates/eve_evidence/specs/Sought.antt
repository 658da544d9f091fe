-- Records that left something in a row, or saw it. docs/MODEL.md, "Where what was seen comes from".
use Rattle.std.specs.Prelude.{◌≡◌, IsTrue, List, ◌∷◌, ◌++◌}
use Rattle.std.specs.List.{AllByRecursion}
use Rattle.eve_smallbank.specs.declared.entry.Entry.{Entry}
use Rattle.eve_smallbank.specs.declared.versioned.Versioned.{Versioned}
use Rattle.eve_smallbank.specs.Access.{writes_row}
use Rattle.eve_smallbank.specs.Chain.{left_by}
use Rattle.eve_views.specs.Form.{SomePlace}
use Rattle.eve_evidence.specs.declared.evidence.Source.{Source}
use Rattle.eve_evidence.specs.declared.evidence.Source.TheVariants.{Write}
use Rattle.eve_evidence.specs.declared.sought.Sought.{Sought}
use Rattle.eve_evidence.specs.declared.sought.Sought.TheVariants.{Left, Seen}
use Rattle.eve_evidence.specs.Sources.{Passed}

-- what an entry saw
abbrev pub seen_in : Entry → Versioned
seen_in e = record { version = e.version; value = e.seen }

-- the entry is a write that left this in the row, or any entry of the row that saw this
abbrev pub Meets : Sought → Entry → Type 0
Meets (Left row has) e = IsTrue (writes_row row e) × (left_by e ≡ has)
Meets (Seen row has) e = (e.row ≡ row) × (seen_in e ≡ has)

-- one of the entries is
abbrev pub MeetsIn : Sought → List Entry → Type 0
MeetsIn s es = SomePlace es (λ _ e. Meets s e)

-- the record has one
abbrev pub RecordMeets : Sought → Passed → Type 0
RecordMeets s x = MeetsIn s x.entries

-- none of the records has
abbrev pub NoneFound : Sought → List Passed → Type 0
NoneFound s xs = AllByRecursion (λ x. ¬ RecordMeets s x) xs

-- the record is the last of these that has one
pub record IsLastFound (s : Sought) (xs : List Passed) (source : Source) : Type 0 where
  pub before : List Passed
  pub item : Passed
  pub behind : List Passed
  pub is : xs ≡ before ++ item ∷ behind
  pub has : RecordMeets s item
  pub none : NoneFound s behind
  pub source_is : source ≡ Write item.index item.batch item.at

-- the first
pub record IsFirstFound (s : Sought) (xs : List Passed) (source : Source) : Type 0 where
  pub before : List Passed
  pub item : Passed
  pub behind : List Passed
  pub is : xs ≡ before ++ item ∷ behind
  pub has : RecordMeets s item
  pub none : NoneFound s before
  pub source_is : source ≡ Write item.index item.batch item.at

-- the record of an index alone, if it has one
pub record IsFoundAlone (s : Sought) (x : Passed) (source : Source) : Type 0 where
  pub has : RecordMeets s x
  pub source_is : source ≡ Write x.index x.batch x.at
