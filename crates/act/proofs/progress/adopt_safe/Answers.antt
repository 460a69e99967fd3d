use mathlib.Core.Path.{ap}
use Rattle.settings.specs.Quorum.{replicas}
use Rattle.wire.proofs.Certificates.{within}
use Rattle.act.proofs.Advancing.{form_stands}
use native.Mathlib.Omega.{arith}
use Rattle.act.proofs.progress.adopt_safe.Goals as goal

pub safe_certificate-requires : goal.safe_certificate-requires
safe_certificate-requires c = (omega (arith, c.requires.1.0, ap replicas c.settings.ensures), within c.args.rec.now 0 (form_stands _ c.args.rec.now c.requires.1.1) c.progress-certificate.ensures.0)

pub returns : goal.returns
returns c = rw (c.adopting.ensures, c.safe_certificate.ensures, c.settings.ensures, c.progress-certificate.ensures.1)
