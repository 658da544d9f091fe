-- The first value of an argument, told by what was found and by its rows.
use Rattle.std.proofs.Common.{◌≡◌, Bool, true, false, cond, List, [], ◌∷◌, map, slice_get, Option, Some, find, refl}
use Rattle.std.specs.Prelude.{option_map, option_and_then}
use Rattle.std.specs.Str.{bytes_eq}
use Rattle.std.specs.Borrow.{Bor}
use Rattle.clap.specs.Facts.{Entry}
use Rattle.clap.specs.Walk.{Row, Text, row_of, rows_of, texts}
use Rattle.clap.specs.Words.{first_value}
use Rattle.clap.specs.declared.parser.matches.Found.{Found}
use Rattle.clap.specs.declared.parser.matches.MatchedArg.{MatchedArg}
use Rattle.eve_tool_arguments.specs.Arguments.{value_given}

first_text : (xs : List (Bor Text)) → option_map (λ s. s.now) (slice_get xs 0) ≡ slice_get (texts xs) 0
first_text [] = refl
first_text (x ∷ xs) = refl

abbrev value_of : MatchedArg → Option Text
value_of a = option_map (λ s. s.now) (slice_get a.vals.items 0)

abbrev value_of_row : Row → Option Text
value_of_row r = slice_get r.values 0

value_along : (id : Text) (es : List Entry)
    → option_and_then value_of (option_map (λ e. e.1) (find (λ e. bytes_eq e.0.now id) es))
    ≡ option_and_then value_of_row (find (λ r. bytes_eq r.id id) (map row_of es))
value_along id [] = refl
value_along id (e ∷ es) = by (bytes_eq e.0.now id) (value_along id es)
  where
    by : (b : Bool)
        → option_and_then value_of (option_map (λ e. e.1) (find (λ e. bytes_eq e.0.now id) es))
        ≡ option_and_then value_of_row (find (λ r. bytes_eq r.id id) (map row_of es))
        → option_and_then value_of
        (option_map (λ (e : Entry). e.1) (cond b (Some e) (find (λ e. bytes_eq e.0.now id) es)))
        ≡ option_and_then value_of_row (cond b (Some (row_of e)) (find (λ r. bytes_eq r.id id) (map row_of es)))
    by true rest = first_text e.1.vals.items
    by false rest = rest

pub first_value-rows : (f : Found) (id : Text) → first_value f id ≡ value_given id (rows_of f)
first_value-rows f id = value_along id f.entries.items
