use Rattle.std.proofs.Common.{◌≡◌, ◌+◌, get_or, List, Option, ℕ, sym, ap, subst, ◌∙◌, arith, Vec, Global}
use Rattle.std.proofs.lemmas.Bool.{false≢true}
use Rattle.std.proofs.lemmas.Option.{slice_get-get_or, slice_get_within}
use Rattle.eve_grammar.specs.Spelling.{votes_of}
use Rattle.eve_frames.specs.Views.{vote_in}
use Rattle.eve_views.specs.Least.{lower}
use Rattle.eve_votes.specs.Ballots.{FollowsAlike}
use Rattle.eve_votes.specs.declared.ballots.Ballot.{Ballot}
use Rattle.eve_votes.proofs.AllVotes.{verifier_there}
use Rattle.eve_votes.proofs.SiftedVotes.{Sifted, sifted_further, sifted_past, sifted_only, sifted_cast, sifted_lowest}
use Rattle.eve_votes.proofs.voting.sift.Goals as goal
use Rattle.eve_votes.proofs.voting.sift.Goals.{then-follows, else-follows+then-not-follows+in_ok-push}
use Rattle.eve_votes.proofs.voting.sift.Goals.{else-follows+else-not-follows}

abbrev none : Ballot
none = record { seq = 0; view = 0; verifier = 0; place = 0 }

pub vote_at-requires-clause-verifier : goal.vote_at-requires-clause-verifier
vote_at-requires-clause-verifier c =
    let b = get_or c.args.ballots.now c.loop-i.i none in
    let is = c.requires.cast.each c.loop-i.i b (slice_get-get_or c.args.ballots.now c.loop-i.i none c.loop-i-test.true)
    in
    verifier_there c.args.trace.now b.verifier b.place is.vote is.there

pub vote_at-requires-clause-place : goal.vote_at-requires-clause-place
vote_at-requires-clause-place c =
    let b = get_or c.args.ballots.now c.loop-i.i none in
    let is = c.requires.cast.each c.loop-i.i b (slice_get-get_or c.args.ballots.now c.loop-i.i none c.loop-i-test.true)
    in
    slice_get_within (votes_of c.args.trace.now b.verifier) b.place is.vote is.there

pub loop-i-preserved : goal.loop-i-preserved
loop-i-preserved c =
    let t = c.args.trace.now in
    let xs = c.args.ballots.now in
    let i = c.loop-i.i in
    let b = get_or xs i none in
    let got = slice_get-get_or xs i none c.loop-i-test.true in
    let cast = c.requires.cast in
    let sifted = c.loop-i.invariant in
    elim c.if-follows.branch [
      | then-follows w ↦
          let least : c.if-follows.least ≡ lower c.loop-i.least w.vote_at.result.offset =
          w.least-is ∙ w.lower-least.ensures ∙ ap (lower c.loop-i.least) w.offset.ensures in
          subst (λ (o : Option ℕ). Sifted t xs (i + 1) c.if-follows.only.items o) (sym least)
          (subst (λ (ys : List Ballot). Sifted t xs (i + 1) ys (lower c.loop-i.least w.vote_at.result.offset))
          (sym (ap (λ (v : Vec Ballot Global). v.items) w.only-is))
          (sifted_further t xs cast i c.loop-i.only.items c.loop-i.least b w.vote_at.result.offset
          (vote_in w.vote_at.result.bytes.now) sifted
          (c.follows.ensures.0 w.if-follows.true) got w.vote_at.ensures))
      | else-follows+then-not-follows+in_ok-push w ↦
          let first : FollowsAlike xs i → ⊥ = λ h. false≢true (sym w.if-follows.false ∙ c.follows.ensures.1 h) in
          let last : FollowsAlike xs (i + 1) → ⊥ = λ h. false≢true (sym w.if-not-follows.true ∙
          w.follows-else-follows.ensures.1 h) in
          subst (λ (o : Option ℕ). Sifted t xs (i + 1) c.if-follows.only.items o) (sym w.least-is)
          (subst (λ (ys : List Ballot). Sifted t xs (i + 1) ys c.loop-i.least)
          (sym (ap (λ (v : Vec Ballot Global). v.items) w.only-is ∙ w.in_ok-push.ensures.items))
          (sifted_only t xs cast i c.loop-i.only.items c.loop-i.least b sifted first last got))
      | else-follows+else-not-follows w ↦
          let first : FollowsAlike xs i → ⊥ = λ h. false≢true (sym w.if-follows.false ∙ c.follows.ensures.1 h) in
          subst (λ (o : Option ℕ). Sifted t xs (i + 1) c.if-follows.only.items o) (sym w.least-is)
          (subst (λ (ys : List Ballot). Sifted t xs (i + 1) ys c.loop-i.least)
          (sym (ap (λ (v : Vec Ballot Global). v.items) w.only-is))
          (sifted_past t xs cast i c.loop-i.only.items c.loop-i.least sifted first
          (w.follows-else-follows.ensures.0 w.if-not-follows.false)))
    ]

pub returns-clause-only : goal.returns-clause-only
returns-clause-only c = sifted_cast c.args.trace.now c.args.ballots.now c.requires.cast c.loop-i.i
    c.loop-i.only.items c.loop-i.least (omega arith) c.loop-i.invariant

pub returns-clause-least : goal.returns-clause-least
returns-clause-least c = sifted_lowest c.args.trace.now c.args.ballots.now c.requires.cast c.loop-i.i
    c.loop-i.only.items c.loop-i.least (omega arith) c.loop-i.invariant
