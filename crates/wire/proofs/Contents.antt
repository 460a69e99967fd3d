-- What stands in bytes is their content. Assumes nothing.
use mathlib.Core.Path.{◌≡◌, ap, ap₂, ◌∙◌}
use mathlib.Core.List.{List, map}
use Prim.Native.Nat.{ℕ, ◌^◌, ◌<◌}
use native.Mathlib.Omega.{arith}
use lib.ListN.{length}
use Rattle.wire.specs.declared.Timeout.{Timeout}
use Rattle.wire.specs.Fields.{cut, count_of, slots}
use Rattle.wire.specs.Content.{timeout_of, Certificate, by_block, by_timeouts, certificate_of, Content, vote, commit, certificate, timeout, proposal, block, release, content}
use Rattle.wire.specs.Encode.{timeout_bytes, certificate_bytes, encode}
use Rattle.wire.specs.Fit.{All, TimeoutFits, CertificateFits, Fits}
use Rattle.wire.proofs.Tables.{Stands, stands_encode, length_row}
use Rattle.wire.proofs.Slots.{map_back, cut_row, all_impl}

pub timeout_stands : (r : List ℕ) (t : Timeout) → Stands r (timeout t) → timeout_of r ≡ t
unfolding timeout_of
timeout_stands r t h =
    let (l, (k, (s, (v, (hv, (hn, (ck, (z, (cv, (cn, (g, u))))))))))) = h.reads in
    λ i. record {
      sender = s i;
      view = record { 0 = v i };
      high = record { view = record { 0 = hv i }; name = hn i };
      carried = record { kind = ck i; view = record { 0 = cv i }; name = cn i; signers = g i };
    }

pub slots_stand : (r : List ℕ) (s v : ℕ) (ts : List Timeout) → All TimeoutFits ts → Stands r (certificate s (by_timeouts v ts)) → slots r ≡ map timeout_bytes ts
slots_stand r s v ts f h =
    let l = length_row ts f in
    let e : count_of r ≡ length ts = omega (arith, h.reads) in
    ap₂ cut e h.rest ∙ cut_row ts f

pub timeouts_back : (ts : List Timeout) → All TimeoutFits ts → map timeout_of (map timeout_bytes ts) ≡ ts
unfolding encode Fits
timeouts_back ts f =
    map_back timeout_bytes timeout_of ts
    (all_impl TimeoutFits (λ t. timeout_of (timeout_bytes t) ≡ t) ts (λ t g. timeout_stands (timeout_bytes t) t (stands_encode (timeout t) g)) f)

certificate_stands : (r : List ℕ) (s : ℕ) (k : Certificate) → CertificateFits k → Stands r (certificate s k) → certificate_of r ≡ k
unfolding certificate_of CertificateFits
certificate_stands r s (by_block v x g) f h = rw h.reads.1.0 cc
certificate_stands r s (by_timeouts v ts) f h =
    rw h.reads.1.0 (ap₂ by_timeouts h.reads.1.1.1.0 (ap (map timeout_of) (slots_stand r s v ts f.2 h) ∙ timeouts_back ts f.2))

pub certificate_back : (s : ℕ) (k : Certificate) → s < 2 ^ 16 → CertificateFits k → certificate_of (certificate_bytes s k) ≡ k
unfolding encode Fits
certificate_back s k hs f = certificate_stands (certificate_bytes s k) s k f (stands_encode (certificate s k) (hs, f))

pub content_stands : (r : List ℕ) (x : Content) → Fits x → Stands r x → content r ≡ x
unfolding content Fits
content_stands r (vote s v x) f h = rw h.reads.1.0 cc
content_stands r (commit s v x) f h = rw h.reads.1.0 cc
content_stands r (certificate s (by_block v x g)) f h = rw h.reads.1.0 (cc (certificate_stands r s (by_block v x g) f.1 h))
content_stands r (certificate s (by_timeouts v ts)) f h = rw h.reads.1.0 (cc (certificate_stands r s (by_timeouts v ts) f.1 h))
content_stands r (timeout t) f h = rw h.reads.1.0 (ap timeout (timeout_stands r t h))
content_stands r (proposal s v x y i k) f h = rw h.reads.1.0 (cc (ap certificate_of h.rest ∙ certificate_back s k f.0 f.5))
content_stands r (block s x y i) f h = rw h.reads.1.0 cc
content_stands r (release s v x i) f h = rw h.reads.1.0 cc
