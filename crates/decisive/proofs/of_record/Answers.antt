use mathlib.Core.Path.{◌≡◌, sym, ap, ◌∙◌}
use Prim.Native.Nat.{ℕ}
use Rattle.std.proofs.lemmas.Result.{err_from_is_err_and}
use Rattle.settings.specs.Answer.{accepts}
use Rattle.settings.specs.Quorum.{replicas}
use Rattle.settings.specs.Refusal.{refused}
use Rattle.refusals.specs.Number.{first_of}
use Rattle.refusals.proofs.Numbers.{refused_none, refused_some}
use Rattle.decisive.specs.Decisive.{decisive, form_rules, certificate_rules}
use Rattle.decisive.specs.Reply.{judged, first_timeouts}
use Rattle.decisive.proofs.Rules.{Formed, few, ascends, form_passed, form_refuses, certificate_refuses, record_accepts}
use Rattle.decisive.proofs.Passing.{judged_err}
use native.Mathlib.Omega.{arith}
use Rattle.decisive.proofs.of_record.Goals as goal

pub returns-in_err-form_refusal : goal.returns-in_err-form_refusal
returns-in_err-form_refusal c = let p = err_from_is_err_and c.from_residual.result c.from_residual.ensures.1 in
    let form : refused c.form_refusal.result ≡ first_of (form_rules (replicas c.args.s) c.args.rec.now) = rw c.n-n.ensures at c.form_refusal.ensures in
    judged_err c.in_err-form_refusal.was p.1 p.2 ∙ sym (form_refuses _ _ _ _ form (refused_some c.in_err-form_refusal.was))

pub certificate_refusal-requires : goal.certificate_refusal-requires
certificate_refusal-requires c = let form : refused c.form_refusal.result ≡ first_of (form_rules (replicas c.args.s) c.args.rec.now) = rw c.n-n.ensures at c.form_refusal.ensures in
    let passed : first_of (form_rules (replicas c.args.s) c.args.rec.now) ≡ 0 = sym form ∙ refused_none c.in_ok-form_refusal.was in
    let F : Formed (replicas c.args.s) c.args.rec.now = form_passed c.args.s _ _ passed in
    let z = F.size in (F.kind, omega (arith, z))

pub returns-in_err-certificate_refusal : goal.returns-in_err-certificate_refusal
returns-in_err-certificate_refusal c = let p = err_from_is_err_and c.from_residual-in_err-certificate_refusal.result c.from_residual-in_err-certificate_refusal.ensures.1 in
    let form : refused c.form_refusal.result ≡ first_of (form_rules (replicas c.args.s) c.args.rec.now) = rw c.n-n.ensures at c.form_refusal.ensures in
    let passed : first_of (form_rules (replicas c.args.s) c.args.rec.now) ≡ 0 = sym form ∙ refused_none c.in_ok-form_refusal.was in
    let certified : refused c.certificate_refusal.result ≡ first_of (certificate_rules c.args.s (replicas c.args.s) c.args.rec.now) = rw c.n-n.ensures at c.certificate_refusal.ensures in
    judged_err c.in_err-certificate_refusal.was p.1 p.2 ∙ sym (certificate_refuses _ _ _ _ passed certified (refused_some c.in_err-certificate_refusal.was))

pub u16_at-requires : goal.u16_at-requires
u16_at-requires c = let form : refused c.form_refusal.result ≡ first_of (form_rules (replicas c.args.s) c.args.rec.now) = rw c.n-n.ensures at c.form_refusal.ensures in
    let passed : first_of (form_rules (replicas c.args.s) c.args.rec.now) ≡ 0 = sym form ∙ refused_none c.in_ok-form_refusal.was in
    let F : Formed (replicas c.args.s) c.args.rec.now = form_passed c.args.s _ _ passed in
    let z = F.size in omega (arith, z)

pub lowest-requires : goal.lowest-requires
lowest-requires c = let form : refused c.form_refusal.result ≡ first_of (form_rules (replicas c.args.s) c.args.rec.now) = rw c.n-n.ensures at c.form_refusal.ensures in
    let passed : first_of (form_rules (replicas c.args.s) c.args.rec.now) ≡ 0 = sym form ∙ refused_none c.in_ok-form_refusal.was in
    let F : Formed (replicas c.args.s) c.args.rec.now = form_passed c.args.s _ _ passed in
    let z = F.size in
    let m = few F in
    let p = c.requires in
    rw c.u16_at.ensures (p, (omega (arith, m, p), (omega (arith, z), ascends F)))

pub returns : goal.returns
unfolding judged
returns c = let form : refused c.form_refusal.result ≡ first_of (form_rules (replicas c.args.s) c.args.rec.now) = rw c.n-n.ensures at c.form_refusal.ensures in
    let passed : first_of (form_rules (replicas c.args.s) c.args.rec.now) ≡ 0 = sym form ∙ refused_none c.in_ok-form_refusal.was in
    let certified : refused c.certificate_refusal.result ≡ first_of (certificate_rules c.args.s (replicas c.args.s) c.args.rec.now) = rw c.n-n.ensures at c.certificate_refusal.ensures in
    let a = c.args in
    ap accepts (c.lowest.ensures ∙ ap (λ (k : ℕ). decisive a.s (first_timeouts a.rec.now k)) c.u16_at.ensures) ∙ sym (record_accepts _ _ _ _ passed (sym certified ∙ refused_none c.in_ok-certificate_refusal.was))
