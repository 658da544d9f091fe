use Rattle.std.proofs.Common.{◌≡◌, ℕ, ◌+◌, ◌<◌, ◌==◌, Bool, ◌&&◌, List, length, get_or, slice_get, Some, ap, sym, ◌∙◌}
use Rattle.std.proofs.Common.{refl, rules}
use Rattle.std.proofs.lemmas.Bool.{eq-eqb}
use Rattle.std.specs.Cmp.Lexicographic.{pointwise}
use Rattle.eve_grammar.specs.Trace.{Attempt}
use Rattle.eve_grammar.proofs.Lists.{all-slice_get}
use Rattle.eve_frames.specs.Views.{attempt_in, commit_in}
use Rattle.eve_history.specs.declared.structure.Attempted.{Attempted}
use Rattle.eve_history.specs.FrameOffsets.{IsAttemptAt}
use Rattle.eve_history.specs.KeptSections.{kept_section, kept_attempt}
use Rattle.eve_history.proofs.Lookups.{commit_is, get_mapped, get_is}
use Rattle.eve_history.proofs.structure.Notes.is_right_commit.Goals as goal

number_is : (seq last : ℕ) (b : Bool) → seq ≡ last + 1 → ((seq == last + 1) && b) ≡ b
number_is seq last b e = rw (eq-eqb seq (last + 1) e) refl

-- the first open attempt
first_at : (items : List Attempted) (i n : ℕ) (x : Attempted) → i ≡ n → n < length items → x ≡ get_or items i x
    → slice_get items n ≡ Some x
first_at items i n x e lt h = get_is items n x lt (h ∙ ap (λ (j : ℕ). get_or items j x) e)

pub attempt_at-requires : goal.attempt_at-requires
attempt_at-requires c =
    let n = c.args.self.now in
    let x = c.index.result.now in
    let settled : c.len-settled.result ≡ length n.fates.items = search rules in
    let more : length n.fates.items < length n.attempts.items = search rules in
    all-slice_get (λ a. IsAttemptAt n.bytes.now a.at) n.attempts.items (length n.fates.items) x c.requires.attempts
    (first_at n.attempts.items c.len-settled.result (length n.fates.items) x settled more c.index.ensures)

pub returns : goal.returns
returns c = λ s stands.
    let decoded = commit_in c.args.commit.now.bytes.now in
    let n = c.args.self.now in
    let x = c.index.result.now in
    let f = kept_attempt n.bytes.now x in
    let settled : c.len-settled.result ≡ length n.fates.items = search rules in
    let more : length n.fates.items < length n.attempts.items = search rules in
    let at = get_mapped (kept_attempt n.bytes.now) n.attempts.items (length n.fates.items) x
    (first_at n.attempts.items c.len-settled.result (length n.fates.items) x settled more c.index.ensures) in
    let seq : decoded.seq ≡ n.last + 1 = sym c.seq.ensures ∙ c.if-seq-self.false in
    c.is_of.ensures ∙ ap (λ (a : Attempt). (a.view == decoded.view) && pointwise ◌==◌ a.token decoded.token)
    (ap attempt_in c.attempt_at.ensures.bytes)
    ∙ sym (commit_is s (kept_section n) f decoded stands at
    ∙ number_is decoded.seq n.last ((f.attempt.view == decoded.view) && pointwise ◌==◌ f.attempt.token decoded.token)
    seq)
