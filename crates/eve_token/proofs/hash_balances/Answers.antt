use Rattle.std.proofs.Common.{◌≡◌, List, [], ◌++◌, codes, ℕ, refl, subst}
use Rattle.std.specs.List.{flat_map}
use Rattle.byteorder.specs.Endian.{big_bytes}
use Rattle.sha2.specs.Hashers.{Holds256}
use Rattle.eve_smallbank.specs.Spelling.{money_text}
use Rattle.eve_token.proofs.hash_balances.Goals as goal

pub returns : goal.returns
returns c =
    let head = c.update.ensures [] c.new-hasher.ensures in
    let numbered = c.update-2.ensures _ head in
    let with_balances = c.hash_all.ensures _ numbered in
    let decoded : codes "EVESB1" ++ (c.to_be_bytes.result ++ flat_map money_text c.as_slice.result.now)
    ≡ codes "EVESB1" ++ (big_bytes 4 c.args.seq ++ flat_map money_text c.args.balances.now)
    = rw (c.to_be_bytes.ensures, c.as_slice.ensures) refl in
    subst (λ (m : List ℕ). Holds256 c.hash_all.new.hasher m) decoded with_balances
