use mathlib.Core.Path.{◌∙◌, sym}
use Rattle.certificate.proofs.Built.{built_none, built_low, built_few, built_made}
use native.Mathlib.Omega.{arith}
use Rattle.certificate.proofs.safe.built_by.Goals as goal

pub returns-then-high-eq0 : goal.returns-then-high-eq0
returns-then-high-eq0 c = built_none _ _ _ _ _ c.vote-high.ensures c.if-high-eq0.true

pub returns-then-not-outranks : goal.returns-then-not-outranks
returns-then-not-outranks c = built_low _ _ _ _ _ c.vote-high.ensures (sym c.outranks.ensures ∙ c.if-not-outranks.true)

pub returns-then-b-weak_quorum : goal.returns-then-b-weak_quorum
returns-then-b-weak_quorum c = built_few _ _ _ _ _ c.vote-high.ensures _ (rw c.n.ensures at c.count_backing-b.ensures) c.if-high-eq0.false (omega (arith, c.if-b-weak_quorum.true, c.weak_quorum.ensures))

pub returns : goal.returns
returns c = built_made _ _ _ _ _ c.vote-high.ensures _ (rw c.n.ensures at c.count_backing-b.ensures) c.if-high-eq0.false (omega (arith, c.if-b-weak_quorum.false, c.weak_quorum.ensures)) c.better.ensures
