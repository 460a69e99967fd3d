use mathlib.Core.Path.{◌≡◌, refl}
use mathlib.Core.Bool.{true}
use Prim.Native.Nat.{ℕ}
use mathlib.Core.List.{List}
use Rattle.std.proofs.lemmas.Result.{err_from_is_err_and}
use Rattle.wire.specs.Content.{Certificate}
use Rattle.refusals.specs.Number.{numbered}
use Rattle.refusals.specs.Early.{voted_rules, proposal_first, proposal_rules}
use Rattle.refusals.proofs.Numbers.{stops, goes}
use Rattle.refusals.proofs.early.proposal_early.Goals as goal

proposal-numbered : (m : List ℕ) (current j v : ℕ) (k : Certificate) → numbered (proposal_first m current j v k) ≡ true
unfolding proposal_first numbered
proposal-numbered m current j v k = refl

pub returns-in_err-proposal_first : goal.returns-in_err-proposal_first
unfolding proposal_rules
returns-in_err-proposal_first c = let p = err_from_is_err_and c.from_residual.result c.from_residual.ensures.1 in
    stops _ _ (proposal-numbered _ _ _ _ _) c.proposal_first.ensures c.in_err-proposal_first.was p.1 p.2

pub returns : goal.returns
unfolding proposal_rules voted_rules
returns c = goes _ _ (proposal-numbered _ _ _ _ _) c.proposal_first.ensures c.in_ok-proposal_first.was (rw (c.u64_at.ensures, c.name_at.ensures) at c.voted.ensures)
