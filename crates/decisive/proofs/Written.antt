-- What the call answers to a certificate that is written from its content, and the examples. Assumes nothing.
use mathlib.Core.Path.{◌≡◌, refl, sym, ap, ◌∙◌}
use mathlib.Core.Bool.{true, not}
use mathlib.Core.List.{List}
use Prim.Native.Nat.{ℕ, zero, suc, ◌+◌, ◌≤◌, ◌<◌}
use native.Mathlib.Omega.{arith}
use borrow.Author.Tests.{eq-eqb, ne_eqb, lt-leb, le-ltb}
use lib.Dec.{lit<, lit≤}
use lib.Count.{ones_in}
use lib.ListN.{length, get_or, replicate}
use Rattle.settings.specs.declared.Settings.{Settings}
use Rattle.settings.specs.Answer.{accepts, judge}
use Rattle.settings.specs.Quorum.{largest, replicas, last_view}
use Rattle.settings.specs.Opening.{settings_rules}
use Rattle.wire.specs.declared.Timeout.{Timeout}
use Rattle.wire.specs.Fields.{kind_of, sender_of, view_of}
use Rattle.wire.specs.Content.{Content, by_timeouts, certificate_of, certificate}
use Rattle.wire.specs.Encode.{encode}
use Rattle.wire.specs.Fit.{IsName, All, Fits, CertificateFits, CertificateProper, Proper}
use Rattle.wire.proofs.Tables.{stands_encode}
use Rattle.wire.proofs.Contents.{certificate_back}
use Rattle.wire.proofs.Accepted.{quiet_stands}
use Rattle.codec.specs.Bytes.{IsBytes}
use Rattle.codec.specs.Names.{name_length, same_bytes, less_bytes}
use Rattle.certificate.specs.Rank.{outranks, carried_certificate}
use Rattle.certificate.specs.Good.{all, signer_count, signers_needed, is_good, timeout_good, progress_good}
use Rattle.certificate.specs.Safe.{each, better, signs, joins, gives, backed_by, built_by, carried_by, safe_of_timeouts}
use Rattle.certificate.specs.Order.{only}
use Rattle.protocol.specs.Example.{six}
use Rattle.protocol.specs.Known.{carries, four_signers, sent, votes}
use Rattle.protocol.proofs.example.Known.{Vouched, Carriable, carries_genesis, sent-length, sent_fits, sent_proper, none_voted, voted}
use Rattle.protocol.proofs.call.Regions.{judge_past}
use Rattle.decisive.specs.Decisive.{is_decisive, lowest_of, decisive, form_rules, certificate_rules, record_rules, timeouts_in, decisive_call}
use Rattle.decisive.specs.Examples.{A, B, no_vote, Example, Answers, two_and_two, first_gives_none, three_for_a, one_carries, four_timeouts, ExamplesHold}
use Rattle.decisive.proofs.Rules.{form_is, six_is}

module _ (f c k i v : ℕ) (ts : List Timeout) where
  abbrev s : Settings
  s = record { f = f; c = c; k = k }

  abbrev n : ℕ
  n = replicas s

  abbrev x : Content
  x = certificate i (by_timeouts v ts)

  -- a certificate that a replica of these settings would take
  pub record Good : Type 0 where
    pub few : n ≤ largest
    pub member : i < n
    pub some : 0 < v
    pub below : v < last_view
    pub fits : CertificateFits (by_timeouts v ts)
    pub proper : Proper n x
    pub good : progress_good s (by_timeouts v ts) ≡ true

  module _ (G : Good) where
    abbrev r : List ℕ
    r = encode x

    all_fit : Fits x
    unfolding Fits
    all_fit = (omega (arith, G.member, G.few), G.fits)

    kind_back : kind_of r ≡ 6
    kind_back = (stands_encode x all_fit).reads.1.0

    sender_back : sender_of r ≡ i
    sender_back = (stands_encode x all_fit).reads.1.1.0

    view_back : view_of r ≡ v
    view_back = (stands_encode x all_fit).reads.1.1.1.0

    back : certificate_of r ≡ by_timeouts v ts
    unfolding encode
    back = certificate_back i (by_timeouts v ts) (omega (arith, G.member, G.few)) G.fits

    timeouts_back : timeouts_in r ≡ ts
    timeouts_back = let e : by_timeouts (view_of r) (timeouts_in r) ≡ by_timeouts v ts = sym (six_is r kind_back) ∙ back in cc

    pub written_answer : decisive_call f c k n r ≡ accepts (decisive s ts)
    unfolding decisive_call certificate_rules judge
    written_answer =
        judge_past _ (settings_rules s n) (record_rules s n r) (ap not (eq-eqb n n refl), (le-ltb largest n G.few, tt))
        ∙ judge_past _ (form_rules n r) (certificate_rules s n r) (rw (form_is n r kind_back) (quiet_stands n r x all_fit G.proper (stands_encode x all_fit)))
        ∙ rw (sender_back, view_back, back, G.good, timeouts_back, lt-leb n i G.member, ne_eqb v 0 (λ e. omega (arith, G.some, e)), lt-leb last_view v G.below) refl

-- ---- the examples: what is left to compute of one
example : (x : Example) → let ts = sent x.carried x.by 0 x.high in
    All Vouched x.high → 0 + length x.high ≤ 6 → Carriable x.carried → progress_good six (by_timeouts 3 ts) ≡ true → decisive six ts ≡ x.answer → Answers x
unfolding CertificateFits Proper CertificateProper
example x v few k good answer =
    let c = x.carried in
    let j = x.by in
    written_answer 1 1 0 0 3 (sent c j 0 x.high)
    (record {
      few = lit≤ tt;
      member = lit< tt;
      some = lit< tt;
      below = lit< tt;
      fits = (lit< tt, omega (arith, sent-length c j k 0 x.high), sent_fits c j k 0 x.high few v);
      proper = sent_proper c j k 0 x.high few v;
      good = good;
    })
    ∙ ap accepts answer

-- ---- the names and votes of the examples
bytes_replicate : (k d : ℕ) → d < 256 → IsBytes (replicate k d)
bytes_replicate zero d h i = lit< tt
bytes_replicate (suc k) d h zero = h
bytes_replicate (suc k) d h (suc i) = bytes_replicate k d h i

named_by : (d : ℕ) → d < 256 → IsName (replicate name_length d)
named_by d h = record { size = refl; bytes = bytes_replicate name_length d h }

a : Vouched (votes A)
a = voted A (named_by 1 (lit< tt)) (λ e. let z : ◌≡◌ {A = ℕ} 1 0 = ap (λ (l : List ℕ). get_or l 0 0) e in omega (arith, z))

b : Vouched (votes B)
b = voted B (named_by 2 (lit< tt)) (λ e. let z : ◌≡◌ {A = ℕ} 2 0 = ap (λ (l : List ℕ). get_or l 0 0) e in omega (arith, z))

o : Vouched no_vote
o = none_voted

b_carried : Carriable (carries 3 B four_signers)
b_carried = record { kind = refl; view = lit≤ tt; name = named_by 2 (lit< tt); signers = lit< tt }

infixr 5 ◌also◌
abbrev ◌also◌ : {P Q : Type 0} → P → Q → P × Q
p also q = (p, q)

pub examples_hold : ExamplesHold
unfolding All ones_in signer_count signers_needed is_good timeout_good all progress_good
    sent lowest_of is_decisive only safe_of_timeouts each carried_by better outranks carried_certificate built_by backed_by gives joins signs same_bytes less_bytes
examples_hold =
    example two_and_two (a also a also b also b also o also tt) (lit≤ tt) carries_genesis refl refl
    also example first_gives_none (o also a also a also b also b also tt) (lit≤ tt) carries_genesis refl refl
    also example three_for_a (a also a also a also b also o also tt) (lit≤ tt) carries_genesis refl refl
    also example one_carries (a also a also b also o also o also tt) (lit≤ tt) b_carried refl refl
    also example four_timeouts (a also a also b also b also tt) (lit≤ tt) carries_genesis refl refl
    also tt
