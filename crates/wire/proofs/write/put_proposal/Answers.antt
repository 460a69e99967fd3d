use mathlib.Core.Path.{refl}
use mathlib.Core.List.{append_assoc}
use Rattle.wire.specs.Encode.{proposal_head_bytes, proposal_bytes}
use Rattle.wire.proofs.Writes.{first, next, whole}
use Rattle.wire.proofs.Lengths.{length_proposal_head}
use lib.ListN.{length}
use borrow.Author.Rules.{rules}
use Rattle.wire.proofs.write.put_proposal.Goals as goal

pub returns : goal.returns
unfolding proposal_head_bytes proposal_bytes
returns c = let a = c.args in
    whole (proposal_bytes a.sender a.view.0 a.child.name a.child.parent a.child.height.0 a.progress.now)
    (next a.progress.now (length a.progress.now)
    (first a.out.now a.at (proposal_head_bytes a.sender a.view.0 a.child.name a.child.parent a.child.height.0 (length a.progress.now)) c.put_proposal_head.ensures (length_proposal_head a.sender a.view.0 a.child.name a.child.parent a.child.height.0 (length a.progress.now) (search rules) (search rules)))
    c.put.ensures (refl))
    (simp append_assoc)
