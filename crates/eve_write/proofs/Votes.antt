-- How a vote is spelled.
use Rattle.std.proofs.Common.{◌≡◌, ℕ, ◌==◌, IsTrue, List, [], ◌∷◌, ◌++◌, length, replicate, eqb, eqb-true, refl, ap}
use Rattle.std.proofs.Common.{◌∙◌, suc, arith}
use Rattle.std.specs.List.{list_all}
use Rattle.std.proofs.lemmas.Bool.{and_parts}
use Rattle.byteorder.specs.Endian.{big_bytes}
use Rattle.eve_grammar.specs.Frames.{OfVote}
use Rattle.eve_grammar.specs.Spelling.{choice_text, frame_text, body_text}
use Rattle.eve_write.specs.declared.vote.ChoiceData.{ChoiceData}
use Rattle.eve_write.specs.declared.vote.ChoiceData.TheVariants.{ForRollback, ForCommit}
use Rattle.eve_write.specs.Data.{choice, choice_code, has_due_token}

-- a list of zeros
zeros_are : (bytes : List ℕ) → IsTrue (list_all (λ byte. byte == 0) bytes) → bytes ≡ replicate (length bytes) 0
zeros_are [] zeros = refl
zeros_are (x ∷ xs) zeros =
    let p = and_parts (eqb x 0) (list_all (λ byte. eqb byte 0) xs) zeros in
    ap (λ y. y ∷ xs) (eqb-true x 0 p.0) ∙ ap (λ ys. 0 ∷ ys) (zeros_are xs p.1)

-- the byte of a choice and a token spell the choice
choice_is : (c : ChoiceData) (token : List ℕ) → length token ≡ 32 → IsTrue (has_due_token c token)
    → choice_code c ∷ token ≡ choice_text (choice c token)
choice_is ForRollback token long due = ap (λ ys. 0 ∷ ys) (zeros_are token due ∙ ap (λ n. replicate n 0) long)
choice_is ForCommit token long due = refl

choice_long : (c : ChoiceData) (token : List ℕ) → length token ≡ 32 → length (choice_text (choice c token)) ≡ 33
choice_long ForRollback token long = refl
choice_long ForCommit token long = ap suc long

pub vote_is : (seq view : ℕ) (c : ChoiceData) (token : List ℕ) → length token ≡ 32 → IsTrue (has_due_token c token)
    → 33 ∷ (big_bytes 4 41 ++ (big_bytes 4 seq ++ (big_bytes 4 view ++ (choice_code c ∷ token))))
    ≡ frame_text (OfVote (record { seq = seq; view = view; choice = choice c token }))
vote_is seq view c token long due =
    let same = choice_is c token long due in
    let count : 41 ≡ length (body_text (OfVote (record { seq = seq; view = view; choice = choice c token }))) =
    omega (arith, choice_long c token long) in
    ap (λ t. 33 ∷ (big_bytes 4 41 ++ (big_bytes 4 seq ++ (big_bytes 4 view ++ t)))) same
    ∙ ap (λ n. 33 ∷ (big_bytes 4 n ++ (big_bytes 4 seq ++ (big_bytes 4 view ++ choice_text (choice c token))))) count
