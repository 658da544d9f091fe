-- A byte with which frames of a kind begin, or of none.
use Rattle.std.proofs.Common.{◌≡◌, ℕ, List, [], ◌∷◌, ◌++◌, codes, refl, ap, sym, ◌∙◌}
use Rattle.std.proofs.lemmas.Bool.{ne_eqb}
use Rattle.eve_grammar.specs.Kinds.{kind_byte, BeginsNone}
use Rattle.eve_grammar.specs.declared.frame_kind.FrameKind.{FrameKind}
use Rattle.eve_grammar.specs.declared.frame_kind.FrameKind.TheVariants as kind
use Rattle.eve_lines.specs.Words.{token_words}
use Rattle.eve_evidence.specs.FrameKinds.{all_kinds}
use Rattle.eve_reasons.specs.Form.{byte_line}
use Rattle.eve_reasons.specs.Lines.{and_line}
use Rattle.eve_reasons.specs.Words.{kind_words}
use Rattle.eve_reasons.proofs.form.say_byte.Goals as goal

unnamed : (byte : ℕ) (kinds : List FrameKind) → BeginsNone byte
    → byte_line byte kinds ≡ codes "found: kind 0x" ++ token_words (byte ∷ [])
unnamed byte [] none = refl
unnamed byte (k ∷ kinds) none = rw (ne_eqb (kind_byte k) byte (none k)) (unnamed byte kinds none)

named : (byte : ℕ) (k : FrameKind) → kind_byte k ≡ byte
    → byte_line byte all_kinds
    ≡ codes "found: kind 0x" ++ (token_words (byte ∷ []) ++ (codes " (" ++ (kind_words k ++ codes ")")))
named byte kind.Customer is = rw (← is) refl
named byte kind.Batch is = rw (← is) refl
named byte kind.Replica is = rw (← is) refl
named byte kind.Attempt is = rw (← is) refl
named byte kind.Access is = rw (← is) refl
named byte kind.Commit is = rw (← is) refl
named byte kind.Rollback is = rw (← is) refl
named byte kind.Transfer is = rw (← is) refl
named byte kind.Verifier is = rw (← is) refl
named byte kind.Vote is = rw (← is) refl
named byte kind.Sent is = rw (← is) refl
named byte kind.End is = rw (← is) refl

pub returns-in-None : goal.returns-in-None
returns-in-None c =
    c.say.ensures ∙ ap (λ l. and_line l c.args.lines.now) (sym (unnamed c.args.byte all_kinds c.in-None.ensures.none))

pub returns-in-Some : goal.returns-in-Some
returns-in-Some c =
    c.say-in-Some.ensures
    ∙ ap (λ l. and_line l c.args.lines.now) (sym (named c.args.byte c.in-Some.kind c.in-Some.ensures.kind))
