-- Where the index of a trace that was read says that its parts begin.
use Rattle.std.proofs.Common.{◌≡◌, ℕ, ◌<◌, ◌++◌, length, sym, ap, ◌∙◌, arith, append-nil}
use Rattle.std.specs.Prelude.{slice_index}
use Rattle.std.specs.List.{flat_map}
use Rattle.std.proofs.lemmas.List.{take_all}
use Rattle.std.proofs.lemmas.List.FromFn.{length-enumerate_from}
use Rattle.eve_grammar.specs.Trace.{Trace, head_of}
use Rattle.eve_grammar.specs.Frames.{section_frames, verifier_frames, sections_of, verifiers_of, frames_of}
use Rattle.eve_views.specs.declared.starts.Starts.{Starts}
use Rattle.eve_views.specs.inner.FramesBefore.{before_sections, before_section, before_verifiers, before_verifier}
use Rattle.eve_views.specs.inner.FramesBefore.{before_sent}
use Rattle.eve_views.specs.Indexes.{AreStarts}
use Rattle.eve_views.proofs.NumberedFrames.{replica_at, verifier_at, sent_begins_at}

-- after the last section the first verifier stands
sections_end : (t : Trace) → before_section t (length t.sections) ≡ before_verifier t 0
unfolding before_section before_verifier
sections_end t =
    ap (λ xs. before_sections t ++ flat_map section_frames xs)
    (take_all (length t.sections) (sections_of t)
    (let many = length-enumerate_from 0 t.sections in omega (arith, many)))
    ∙ sym (append-nil (before_verifiers t))

verifiers_end : (t : Trace) → before_verifier t (length t.verifiers) ≡ before_sent t
unfolding before_verifier before_sent
verifiers_end t = ap (λ xs. before_verifiers t ++ flat_map verifier_frames xs)
    (take_all (length t.verifiers) (verifiers_of t)
    (let many = length-enumerate_from 0 t.verifiers in omega (arith, many)))

pub section_starts : (t : Trace) (s : Starts) (e : ℕ) → AreStarts (head_of t) (frames_of t) s → e < length t.sections
    → slice_index s.sections e ≡ length (before_section t e)
section_starts t s e are lt = replica_at t (slice_index s.sections e) e (are.sections e lt)

pub verifier_starts : (t : Trace) (s : Starts) (v : ℕ) → AreStarts (head_of t) (frames_of t) s
    → v < length t.verifiers → slice_index s.verifiers v ≡ length (before_verifier t v)
verifier_starts t s v are lt = verifier_at t (slice_index s.verifiers v) v (are.verifiers v lt)

pub sections_stop : (t : Trace) (s : Starts) (e : ℕ) → AreStarts (head_of t) (frames_of t) s → 0 < length t.verifiers
    → e ≡ length t.sections → slice_index s.verifiers 0 ≡ length (before_section t e)
sections_stop t s e are some last =
    verifier_starts t s 0 are some ∙ ap length (sym (sections_end t))
    ∙ ap (λ (k : ℕ). length (before_section t k)) (sym last)

pub sent_starts : (t : Trace) (s : Starts) → AreStarts (head_of t) (frames_of t) s → s.sent ≡ length (before_sent t)
sent_starts t s are = are.sent ∙ sent_begins_at t

pub verifiers_stop : (t : Trace) (s : Starts) (v : ℕ) → AreStarts (head_of t) (frames_of t) s
    → v ≡ length t.verifiers → s.sent ≡ length (before_verifier t v)
verifiers_stop t s v are last =
    sent_starts t s are ∙ ap length (sym (verifiers_end t))
    ∙ ap (λ (k : ℕ). length (before_verifier t k)) (sym last)
