-- Public: other crates cite these lemmas. Bytes that no kind of frame begins with.
use Rattle.std.proofs.Common.{◌≡◌, ℕ, Bool, true, false, ◌&&◌, ◌||◌, cond, refl, sym}
use Rattle.std.specs.Prelude.{◌==◌, nat_lt}
use Rattle.std.proofs.lemmas.Bool.{ne_eqb}
use Rattle.eve_grammar.specs.declared.frame_kind.FrameKind.{FrameKind}
use Rattle.eve_grammar.specs.declared.frame_kind.FrameKind.TheVariants as of
use Rattle.eve_grammar.specs.Frames.{is_allowed, is_allowed_in_sections, is_allowed_behind_sections}
use Rattle.eve_grammar.specs.Kinds.{kind_byte, BeginsNone}
use Rattle.eve_grammar.specs.declared.head.Head.{Head}
use Rattle.eve_grammar.specs.declared.place.Place.{Place}

-- it differs from the byte of each kind
pub other_byte : (byte : ℕ) → BeginsNone byte → (kind : FrameKind) → (byte == kind_byte kind) ≡ false
other_byte byte none kind = ne_eqb byte (kind_byte kind) (λ e. none kind (sym e))

-- what the tests in the sections come to for a kind that stands elsewhere
pub sections_none : (q : Bool) → ((q && false) || false) ≡ false
sections_none true = refl
sections_none false = refl

both_off : (x y : Bool) → ((x && false) || (y && false)) ≡ false
both_off true true = refl
both_off true false = refl
both_off false true = refl
both_off false false = refl

none_in_sections : (h : Head) (p : Place) (byte : ℕ) → BeginsNone byte → is_allowed_in_sections h p byte ≡ false
none_in_sections h p byte none =
    let other = other_byte byte none in
    rw (other of.Replica, other of.Attempt, other of.Commit, other of.Rollback, other of.Transfer, other of.Verifier)
    (sections_none _)

none_behind : (h : Head) (p : Place) (byte : ℕ) → BeginsNone byte → is_allowed_behind_sections h p byte ≡ false
none_behind h p byte none =
    let other = other_byte byte none in
    rw (other of.Verifier, other of.Vote, other of.Sent, other of.End) (both_off _ _)

never : (a b c d e x y : Bool) → x ≡ false → y ≡ false
    → cond a false (cond b false (cond c false (cond d false (cond e x y)))) ≡ false
never true b c d e x y f g = refl
never false true c d e x y f g = refl
never false false true d e x y f g = refl
never false false false true e x y f g = refl
never false false false false true x y f g = f
never false false false false false x y f g = g

-- a frame that begins so may stand nowhere
pub none_allowed : (h : Head) (p : Place) (byte : ℕ) → BeginsNone byte → is_allowed h p byte ≡ false
none_allowed h p byte none =
    let other = other_byte byte none in
    rw (other of.Customer, other of.Batch, other of.Access)
    (never p.ended (nat_lt p.customers h.customers) (nat_lt p.batches h.batches) (nat_lt 0 p.accesses)
    (p.verifiers == 0) _ _ (none_in_sections h p byte none) (none_behind h p byte none))
