-- Words without a fault don't lead to the subcommand `help`, which answers with help.
use Rattle.std.proofs.Common.{◌≡◌, ℕ, Bool, true, false, not, ◌&&◌, ◌||◌, if◌then◌else◌, List, [], ◌∷◌}
use Rattle.std.proofs.Common.{Option, Some, None, codes, fold, is_some, refl, sym, subst}
use Rattle.std.specs.Str.{bytes_eq}
use Rattle.std.proofs.lemmas.Slice.Eq.{bytes_eq-Decides}
use Rattle.clap.specs.Kinds.{Kinds, or_else}
use Rattle.clap.specs.Lexer.{long_of, short_of}
use Rattle.clap.specs.Words.{Shape, Text}
use Rattle.clap.specs.Walk.{Held, Names, Outcome, Rule, Step, Waiting, Walk, after_flag, after_step, answers_to}
use Rattle.clap.specs.Walk.{arg_by_index, arg_by_long, bundle, done, idle, long_met, long_or_other, next, option}
use Rattle.clap.specs.Walk.{plain, plain_word, positional, refused, short_or_plain, subcommand, subcommand_met}
use Rattle.clap.specs.Walk.{subcommand_or_other, to_positional, trailing, value, waits, walked, walked_from, word_met}
use Rattle.clap.specs.declared.error.kind.ErrorKind.TheVariants as kind
use Rattle.clap.specs.Faults.{other_fault, step_fault, turn_fault, walk_fault, word_fault}

-- a step that leads to no subcommand `help`
abbrev keeps_off : Step → Bool
keeps_off (subcommand name) = not (bytes_eq name (codes "help"))
keeps_off _ = true

-- a walk that stopped at no subcommand `help`
abbrev pub stands_off : Option (Text × List Text) → Bool
stands_off None = true
stands_off (Some p) = not (bytes_eq p.0 (codes "help"))

plain_off : (c : List Rule) (waiting : Waiting) (word : Text) (h : Held)
    → keeps_off (plain_word c waiting word h).1 ≡ true
plain_off c idle word h = refl
plain_off c (option id) word h = refl
plain_off c positional word h = refl

flag_off : (c : List Rule) (waiting : Waiting) (word : Text) (h : Held) (o : Outcome)
    → keeps_off (after_flag c waiting word h o).1 ≡ true
flag_off c waiting word h done = refl
flag_off c waiting word h (waits id) = refl
flag_off c waiting word h plain = plain_off c waiting word h
flag_off c waiting word h refused = plain_off c waiting word h

short_off : (c : List Rule) (waiting : Waiting) (word : Text) (flags : Option Text) (h : Held)
    → keeps_off (short_or_plain c waiting word flags h).1 ≡ true
short_off c waiting word None h = plain_off c waiting word h
short_off c waiting word (Some flags) h = flag_off c waiting word (bundle c flags h).0 (bundle c flags h).1

long_off : (c : List Rule) (waiting : Waiting) (word : Text) (p : Option (Text × Option Text)) (h : Held)
    → keeps_off (long_or_other c waiting word p h).1 ≡ true
long_off c waiting word None h = short_off c waiting word (short_of word) h
long_off c waiting word (Some p) h =
    flag_off c waiting word (long_met c (arg_by_long c p.0) p.1 h).0 (long_met c (arg_by_long c p.0) p.1 h).1

dash_off : (c : List Rule) (dashes : Bool) (waiting : Waiting) (position : ℕ) (word : Text) (h : Held)
    → keeps_off (if dashes then (h, trailing position) else long_or_other c waiting word (long_of word) h).1 ≡ true
dash_off c true waiting position word h = refl
dash_off c false waiting position word h = long_off c waiting word (long_of word) h

-- where neither step fails, the first doesn't, and neither does the second
pub first_empty : (a b : Kinds) → or_else a b ≡ [] → a ≡ []
first_empty [] b h = refl
first_empty (k ∷ a) b h = cc

second_empty : (a b : Kinds) → or_else a b ≡ [] → b ≡ []
second_empty [] b h = h
second_empty (k ∷ a) b h = cc

-- a subcommand that isn't refused isn't `help`
name_off : (is_help disabled : Bool) → disabled ≡ false
    → (if is_help && not disabled then kind.DisplayHelp ∷ kind.InvalidSubcommand ∷ [] else []) ≡ [] → not is_help ≡ true
name_off true true enabled h = cc
name_off true false enabled h = cc
name_off false disabled enabled h = refl

-- of a command that has a subcommand `help`
module _ (s : Shape) (names : Names) (enabled : s.disable_help_subcommand ≡ false) where
  met_off : (met : Option Text) (waiting : Waiting) (position : ℕ) (word : Text) (h : Held)
      → other_fault s met word h ≡ [] → keeps_off (subcommand_or_other s.rules met waiting position word h).1 ≡ true
  met_off None waiting position word h right =
      dash_off s.rules (bytes_eq word (45 ∷ 45 ∷ [])) waiting position word h
  met_off (Some name) waiting position word h right =
      name_off (bytes_eq name (codes "help")) s.disable_help_subcommand enabled right

  word_off : (is_trailing : Bool) (waiting : Waiting) (position : ℕ) (word : Text) (h : Held)
      → word_fault s names is_trailing waiting word h ≡ []
      → keeps_off (word_met s.rules names is_trailing waiting position word h).1 ≡ true
  word_off true waiting position word h right = refl
  word_off false waiting position word h right =
      met_off (subcommand_met names waiting word) waiting position word h right

  positional_off : (a : Option Rule) (word : Text) (w : Walk) (h : Held) → stands_off w.stopped ≡ true
      → stands_off (to_positional s.rules a word w h).stopped ≡ true
  positional_off None word w h off = off
  positional_off (Some a) word w h off = refl

  after_off : (word : Text) (w : Walk) (h : Held) (step : Step) → stands_off w.stopped ≡ true → keeps_off step ≡ true
      → stands_off (after_step s.rules word w h step).stopped ≡ true
  after_off word w h (next waiting) off keeps = off
  after_off word w h (trailing position) off keeps = off
  after_off word w h (subcommand name) off keeps = keeps
  after_off word w h value off keeps = positional_off (arg_by_index s.rules w.position) word w h off

  from_off : (stopped : Option (Text × List Text)) (w : Walk) (word : Text) (further : Kinds)
      → stands_off stopped ≡ true → stands_off w.stopped ≡ true
      → (if is_some stopped then [] else or_else (word_fault s names w.is_trailing w.waiting word w.held) further) ≡ []
      → stands_off (walked_from s.rules names stopped w word).stopped ≡ true
  from_off (Some p) w word further off stands right = off
  from_off None w word further off stands right =
      let met = word_met s.rules names w.is_trailing w.waiting w.position word w.held in
      after_off word w met.0 met.1 stands
      (word_off w.is_trailing w.waiting w.position word w.held (first_empty _ further right))

  -- a walk along words without a fault stops at no subcommand `help`
  pub walk_off : (w : Walk) (words : List Text) → stands_off w.stopped ≡ true → walk_fault s names w words ≡ []
      → stands_off (fold (walked s.rules names) w words).stopped ≡ true
  unfolding walked walk_fault
  walk_off w [] off right = off
  walk_off w (word ∷ rest) off right =
      let met = word_met s.rules names w.is_trailing w.waiting w.position word w.held in
      walk_off (walked s.rules names w word) rest
      (from_off w.stopped w word (step_fault s w.position met.0 met.1) off off
      (first_empty (turn_fault s names w word) _ right))
      (second_empty (turn_fault s names w word) _ right)

-- what answers to `help` is where no such walk stops
pub off_help : (p : Text × List Text) → stands_off (Some p) ≡ true → answers_to p.0 (codes "help", []) ≡ true
    → false ≡ true
off_help p off answers = by (bytes_eq (codes "help") p.0) refl answers
  where
    by : (b : Bool) → bytes_eq (codes "help") p.0 ≡ b → (b || false) ≡ true → false ≡ true
    by false is h = h
    by true is h =
        let same = (bytes_eq-Decides (codes "help") p.0).0 is in
        subst (λ (t : Text). not (bytes_eq t (codes "help")) ≡ true) (sym same) off
