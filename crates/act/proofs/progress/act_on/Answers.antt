use borrow.Author.Rules.{rules}
use Rattle.act.proofs.Steps.{ready_regular}
use Rattle.act.proofs.Advancing.{in_place, block_ready, block_within, on_timeouts, on_block_lem}
use Rattle.act.proofs.progress.act_on.Goals as goal

pub progress-certificate-requires : goal.progress-certificate-requires
progress-certificate-requires c = let S = in_place _ _ _ _ c.requires in (S.head, S.block)

pub advance-next-requires : goal.advance-next-requires
advance-next-requires c = c.requires

pub commit_after-requires : goal.commit_after-requires
commit_after-requires c = let i = c.requires in let a = c.args in let R = ready_regular a.d _ _ i.ready (search rules) (search rules) in
    (block_ready _ _ _ _ i R (search rules) c.progress-certificate.ensures.0 c.advance-next.ensures c.in-Block.is, block_within _ _ _ _ i R (search rules) c.progress-certificate.ensures.0 c.advance-next.ensures c.in-Block.is)

pub returns-in-Block : goal.returns-in-Block
returns-in-Block c = let i = c.requires in let a = c.args in let R = ready_regular a.d _ _ i.ready (search rules) (search rules) in
    on_block_lem _ _ _ _ i R (search rules) c.progress-certificate.ensures.0 c.advance-next.ensures c.in-Block.is c.commit_after.ensures

pub returns-in-Timeouts : goal.returns-in-Timeouts
returns-in-Timeouts c = let i = c.requires in let a = c.args in let R = ready_regular a.d _ _ i.ready (search rules) (search rules) in
    on_timeouts _ _ _ _ i R (search rules) c.progress-certificate.ensures.0 c.advance-next.ensures c.in-Timeouts.is
