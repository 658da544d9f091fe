-- Records that workers made, one more, and those of a worker alone.
use Rattle.std.proofs.Common.{◌≡◌, ◌≢◌, ℕ, ◌+◌, ap, ◌∙◌, cond, eqb, eq-eqb, ne_eqb, List, [], ◌∷◌, ◌++◌, length, refl}
use Rattle.std.proofs.Common.{subst, sym, arith, zero, suc, ◌<◌, ◌≤◌, Option, None, Some, IsSome, slice_get}
use Rattle.std.proofs.Common.{slice_index_or}
use Rattle.std.proofs.lemmas.Bool.{false≢true}
use Rattle.std.proofs.lemmas.List.{length-append}
use mathlib.Core.Logic.{dite}
use native.Mathlib.Decide.{dec_le, ℕ_discrete}
use Rattle.eve_stamps.specs.Applied.{Applied}
use Rattle.eve_grammar.specs.Trace.{Batch, request_with}
use Rattle.eve_recorder.specs.Noted.{of_worker}
use Rattle.eve_recorder.specs.RecorderViews.{Noter, noted_on}
use Rattle.eve_write.specs.declared.batch.BatchData.{BatchData}
use Rattle.eve_write.specs.Data.{batch as plain}
use Rattle.eve_floor.specs.declared.task.Task.{Task}
use Rattle.eve_floor.specs.declared.seats.OwnSeats.{OwnSeats}
use Rattle.eve_floor.specs.declared.shared.SharedBatch.{SharedBatch}
use Rattle.eve_floor.specs.declared.shared.FreeSeats.{FreeSeats}
use Rattle.eve_floor.specs.SharedBatches.{AreOwnAt, AreFreeAt}
use Rattle.eve_floor.specs.Executing.{IsRecordOf}
use Rattle.eve_floor.specs.Recording.{AreMadeBy, AreNotedOf}

-- one more, of any request, at the place after those that there are
pub made_push : (worker : ℕ) (names : List (List ℕ)) (b : Batch) (place : ℕ) (records : List Applied) (r : Applied)
    (index next : ℕ) → AreMadeBy worker names b place records → next ≡ place + length records
    → IsRecordOf names (request_with b index) index worker next r
    → AreMadeBy worker names b place (records ++ r ∷ [])
made_push worker names b place [] r index next all at own =
    let same : next ≡ place = omega (arith, at) in
    let there = subst (λ (k : ℕ). IsRecordOf names (request_with b index) index worker k r) same own in
    (subst (λ (k : ℕ). IsRecordOf names (request_with b k) k worker place r) (sym there.0) there, record {})
made_push worker names b place (q ∷ records) r index next all at own =
    (all.0, made_push worker names b (place + 1) records r index next all.1 (omega (arith, at)) own)

-- all are of the worker that made them
own_made : (worker : ℕ) (names : List (List ℕ)) (b : Batch) (place : ℕ) (records : List Applied)
    → AreMadeBy worker names b place records → of_worker worker records ≡ records
own_made worker names b place [] made = refl
own_made worker names b place (r ∷ records) made =
    ap (λ c. cond c (r ∷ of_worker worker records) (of_worker worker records)) (eq-eqb r.worker worker made.0.1)
    ∙ ap (λ (l : List Applied). r ∷ l) (own_made worker names b (place + 1) records made.1)

-- and none of another
none_made : (worker other : ℕ) (names : List (List ℕ)) (b : Batch) (place : ℕ) (records : List Applied)
    → other ≢ worker → AreMadeBy worker names b place records → of_worker other records ≡ []
none_made worker other names b place [] differ made = refl
none_made worker other names b place (r ∷ records) differ made =
    ap (λ c. cond c (r ∷ of_worker other records) (of_worker other records))
    (ne_eqb r.worker other (λ same. differ (sym same ∙ made.0.1)))
    ∙ none_made worker other names b (place + 1) records differ made.1

-- those of a worker alone are all that was noted
pub noted_alone : (names : List (List ℕ)) (b : Batch) (records : List Applied) → AreMadeBy 0 names b 0 records
    → AreNotedOf names b records
noted_alone names b records made = λ worker. dite (ℕ_discrete worker 0)
    (λ is. subst (λ (w : ℕ). AreMadeBy w names b 0 (of_worker w records)) (sym is)
    (subst (AreMadeBy 0 names b 0) (sym (own_made 0 names b 0 records made)) made))
    (λ no. subst (AreMadeBy worker names b 0) (sym (none_made 0 worker names b 0 records no made)) (record {}))

-- a task's record, by the words of the batch and of the worker
pub record_of_task : (names : List (List ℕ)) (d : BatchData) (t : Task) (worker place : ℕ) (x : Applied)
    → t.batch.now ≡ d → t.worker ≡ worker → t.place ≡ place
    → IsRecordOf names (request_with (plain t.batch.now) t.index) t.index t.worker t.place x
    → IsRecordOf names (request_with (plain d) t.index) t.index worker place x
record_of_task names d t worker place x batch own at made =
    subst (λ (e : BatchData). IsRecordOf names (request_with (plain e) t.index) t.index worker place x) batch
    (subst (λ (w : ℕ). IsRecordOf names (request_with (plain t.batch.now) t.index) t.index w place x) own
    (subst (λ (p : ℕ). IsRecordOf names (request_with (plain t.batch.now) t.index) t.index t.worker p x) at made))

-- What was taken of a shared batch's recorder is what was noted there, and so what is due, where all is taken.
pub gathered : (names : List (List ℕ)) (shared : SharedBatch) (s : FreeSeats) (noted records : List Applied)
    → AreFreeAt names shared s
    → ((w : ℕ) → w < shared.recorder.recorder.workers → of_worker w noted
    ≡ noted_on (slice_index_or s.noters.seats w None))
    → ((w : ℕ) → shared.recorder.recorder.workers ≤ w → of_worker w noted ≡ [])
    → ((w : ℕ) → of_worker w records ≡ of_worker w noted)
    → AreNotedOf names (plain shared.assignment.batch.now) records
gathered names shared s noted records own there others all = λ w.
    let b : Batch = plain shared.assignment.batch.now in
    subst (AreMadeBy w names b 0) (sym (all w))
    (dite (dec_le shared.recorder.recorder.workers w)
    (λ le. subst (AreMadeBy w names b 0) (sym (others w le)) (record {}))
    (λ no. subst (AreMadeBy w names b 0) (sym (there w (omega arith))) (own.noted w)))

-- nothing that was noted
pub none_noted : (names : List (List ℕ)) (b : Batch) (records : List Applied) → records ≡ []
    → AreNotedOf names b records
none_noted names b records none = λ worker.
    subst (λ (rs : List Applied). AreMadeBy worker names b 0 (of_worker worker rs)) (sym none) (record {})

-- where a seat is back, it is seen at its number
pub seat_there : (seats : List (Option Noter)) (w : ℕ) → IsSome (slice_index_or seats w None)
    → (x : Noter) × (slice_get seats w ≡ Some (Some x)) × (slice_index_or seats w None ≡ Some x)
seat_there [] w there = absurd (false≢true there)
seat_there (None ∷ seats) zero there = absurd (false≢true there)
seat_there (Some x ∷ seats) zero there = (x, refl, refl)
seat_there (o ∷ seats) (suc w) there = seat_there seats w there

-- a worker's seats once one more record is noted
pub place_more : (names : List (List ℕ)) (shared : SharedBatch) (own : OwnSeats) (new : Noter) (t : Task) (x : Applied)
    → AreOwnAt names shared own → new ≡ record own.noter { noted = own.noter.noted ++ x ∷ [] }
    → t.batch.now ≡ shared.assignment.batch.now → t.worker ≡ own.noter.worker → t.place ≡ length own.noter.noted
    → IsRecordOf names (request_with (plain t.batch.now) t.index) t.index t.worker t.place x
    → length own.noter.noted < length own.claims.drawn
    → AreOwnAt names shared record { noter = new; claims = own.claims }
place_more names shared own new t x was is batch its at made claimed =
    let b : Batch = plain shared.assignment.batch.now in
    let noted = made_push own.noter.worker names b 0 own.noter.noted x t.index (length own.noter.noted) was.noted
    (omega arith)
    (record_of_task names shared.assignment.batch.now t own.noter.worker (length own.noter.noted) x batch its at
    made) in
    record {
      recorder = ap (λ (n : Noter). n.recorder) is ∙ was.recorder;
      noted = subst (λ (n : Noter). AreMadeBy n.worker names b 0 n.noted) (sym is) noted;
      claims = was.claims;
      few =
          let more = length-append own.noter.noted (x ∷ []) in
          subst (λ (n : Noter). length n.noted ≤ length own.claims.drawn) (sym is) (omega (arith, more, claimed));
      most = was.most;
    }
