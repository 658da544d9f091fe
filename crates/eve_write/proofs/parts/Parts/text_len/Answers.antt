use Rattle.std.proofs.Common.{◌+◌, ap, ◌∙◌, arith, length}
use Rattle.std.specs.List.{list_all, sum_by}
use Rattle.eve_grammar.specs.Frames.{OfBatch, OfSent}
use Rattle.eve_grammar.specs.Spelling.{customer_text, frame_text}
use Rattle.eve_grammar.specs.Limits.{is_customer, is_batch}
use Rattle.eve_write.specs.Data.{customer, batch, sent}
use Rattle.eve_write.specs.Passes.{fits_step, step_size, vote_size}
use Rattle.eve_write.proofs.JoinedWrites.{all_fit}
use Rattle.eve_write.proofs.RightParts.{AreWritable-from_spelling}
use Rattle.eve_write.proofs.Totals.{length_is}
use Rattle.eve_write.proofs.parts.Parts.text_len.Goals as goal

pub len_of_each-requires : goal.len_of_each-requires
len_of_each-requires c =
    ap (list_all (λ x. is_customer (customer x))) c.as_slice.ensures.value
    ∙ (AreWritable-from_spelling c.args.self.now c.requires).customers

pub len_of_each-requires-2 : goal.len_of_each-requires-2
len_of_each-requires-2 c =
    ap (list_all (λ x. is_batch (batch x))) c.as_slice-2.ensures.value
    ∙ (AreWritable-from_spelling c.args.self.now c.requires).batches

pub len_of_each-requires-3 : goal.len_of_each-requires-3
len_of_each-requires-3 c =
    ap (list_all (λ x. list_all fits_step x.items)) c.as_slice-3.ensures.value
    ∙ (AreWritable-from_spelling c.args.self.now c.requires).sections

pub len_of_each-requires-5 : goal.len_of_each-requires-5
len_of_each-requires-5 c = all_fit c.as_slice-5.result.now

pub returns : goal.returns
returns c =
    let p = c.args.self.now in
    let customers = ap (sum_by (λ x. length (customer_text (customer x)))) c.as_slice.ensures.value in
    let batches = ap (sum_by (λ b. length (frame_text (OfBatch 1 (batch b))))) c.as_slice-2.ensures.value in
    let sections = ap (sum_by (λ s. 6 + sum_by step_size s.items)) c.as_slice-3.ensures.value in
    let verifiers = ap (sum_by (λ v. 6 + sum_by vote_size v.items)) c.as_slice-4.ensures.value in
    let replies = ap (sum_by (λ s. length (frame_text (OfSent (sent s))))) c.as_slice-5.ensures.value in
    let whole = length_is p in
    omega (
      arith,
      whole,
      customers,
      batches,
      sections,
      verifiers,
      replies,
      c.len_of_each.ensures,
      c.len_of_each-2.ensures,
      c.len_of_each-3.ensures,
      c.len_of_each-4.ensures,
      c.len_of_each-5.ensures,
      c.saturating_add.ensures,
      c.saturating_add-2.ensures,
      c.saturating_add-3.ensures,
      c.saturating_add-4.ensures,
      c.saturating_add-5.ensures,
    )
