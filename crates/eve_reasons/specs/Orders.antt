-- Which name or request stands twice. docs/USING.md, "What `explain` prints".
use Rattle.std.specs.Prelude.{ℕ, List, [], ◌∷◌, ◌++◌, codes, decimal}
use Rattle.eve_grammar.specs.declared.frame_kind.FrameKind.TheVariants as kind
use Rattle.eve_lines.specs.Words.{name_words}
use Rattle.eve_evidence.specs.declared.evidence.ToldRequest.{ToldRequest}
use Rattle.eve_reasons.specs.Words.{frame_at_words, told_request_words}

-- a name that stands twice, and the first customer that has it
abbrev pub same_name_lines : List ℕ → ℕ → ℕ → List (List ℕ)
same_name_lines name first first_at =
    (codes "name: " ++ name_words name)
    ∷ (codes "first: customer " ++ (decimal first ++ (codes ", " ++ frame_at_words kind.Customer first_at))) ∷ []

-- a request whose client and number stand earlier, and the earliest that has them
abbrev pub same_request_lines : ToldRequest → ToldRequest → ℕ → List (List ℕ)
same_request_lines request first first_at =
    (codes "request: " ++ told_request_words request)
    ∷ (codes "first: " ++ (told_request_words first ++ (codes ", " ++ frame_at_words kind.Batch first_at))) ∷ []
