-- Records that a replica writes, as bytes: what they read as, which forms they have, how they stand one after another. Assumes nothing.
use Prim.Native.Nat.{ℕ, suc, ◌+◌, ◌/◌, ◌^◌, ◌≤◌, ◌<◌}
use mathlib.Core.List.{List, [], ◌∷◌, ◌++◌, append_assoc, append-nil}
use mathlib.Core.Logic.{inl, inr}
use mathlib.Core.Path.{◌≡◌, refl, sym, ap, subst, ◌∙◌}
use native.Mathlib.Omega.{arith}
use lib.ListN.{length, length-append}
use Rattle.settings.specs.Quorum.{largest}
use Rattle.codec.specs.Bytes.{IsBytes, part, patch, le_nat, le_bytes}
use Rattle.codec.specs.Names.{name_length}
use Rattle.codec.proofs.Laws.{part_before, length-patch}
use Rattle.codec.proofs.Le.{le_nat-le_bytes, length-le_bytes}
use Rattle.wire.proofs.Lengths.{length_header, length_timeouts}
use Rattle.wire.specs.declared.Timeout.{Timeout}
use Rattle.wire.specs.Fields.{count_of, vote_length, release_length, timeout_length, timeouts_head, proposal_head, block_certificate_length}
use Rattle.wire.specs.Encode.{joined, header_bytes, vote_bytes, release_bytes, proposal_bytes, block_certificate_bytes, timeouts_bytes, certificate_bytes, encode}
use Rattle.wire.specs.Content.{Certificate, by_block, by_timeouts, Content, certificate}
use Rattle.wire.specs.Fit.{CertificateFits, TimeoutsProper, CertificateProper, Fits}
use Rattle.wire.proofs.Tables.{stands_encode, length_stands, length_row, bytes_encode, framed_stands}
use Rattle.wire.proofs.ReadBack.{read_written}
use Rattle.wire.proofs.Facts.{Framed}
use Rattle.memory.specs.Layout.{entry_room}
use Rattle.protocol.specs.Events.{with_sender}
use Rattle.protocol.specs.OneChain.{read_of, reads}
use Rattle.protocol.proofs.call.Regular.{EntryForm}
use Rattle.protocol.proofs.chain.Invariant.{Sent}

-- what is written reads back
pub reads-encode : (q : Content) → Fits q → reads (encode q) ≡ read_of q
reads-encode q f = ap read_of (read_written q f)

-- ---- a certificate's record
-- at most n replicas send the timeouts of a certificate
pub proper_few : (n v low : ℕ) (ts : List Timeout) → TimeoutsProper n v low ts → low ≤ n → low + length ts ≤ n
unfolding TimeoutsProper
proper_few n v low [] p h = omega arith
proper_few n v low (t ∷ ts) p h = let k = proper_few n v (suc t.sender) ts p.4 (omega (arith, p.2)) in omega (arith, p.1)

-- kind and length are those of an entry certificate in a cluster of n
pub certificate_form : (n j : ℕ) (k : Certificate) → j < 2 ^ 16 → CertificateFits k → CertificateProper n k → EntryForm n (certificate_bytes j k)
unfolding CertificateFits CertificateProper Fits encode
certificate_form n j (by_block v x g) hj f p =
    let s = stands_encode (certificate j (by_block v x g)) (hj, f) in
    inl (s.reads.1.0, length_stands (certificate_bytes j (by_block v x g)) (certificate j (by_block v x g)) s)
certificate_form n j (by_timeouts v ts) hj f p =
    let s = stands_encode (certificate j (by_timeouts v ts)) (hj, f) in
    let l = length_row ts f.2 in
    let c : count_of (certificate_bytes j (by_timeouts v ts)) ≡ length ts = omega (arith, s.reads) in
    let few = proper_few n v 0 ts p (omega arith) in
    inr (s.reads.1.0, omega arith, omega (arith, length_stands (certificate_bytes j (by_timeouts v ts)) (certificate j (by_timeouts v ts)) s))

pub certificate_bytes_lem : (j : ℕ) (k : Certificate) → j < 2 ^ 16 → CertificateFits k → IsBytes (certificate_bytes j k)
unfolding Fits encode
certificate_bytes_lem j k hj f = bytes_encode (certificate j k) (hj, f)

pub form_short : (n : ℕ) (r : List ℕ) → n ≤ largest → EntryForm n r → length r ≤ entry_room
form_short n r h (inl p) = omega (arith, p.1)
form_short n r h (inr p) = omega (arith, p.1, p.2)

-- sent on with another sender, it says the same
pub with_sender_lem : (s j : ℕ) (k : Certificate) → with_sender j (certificate_bytes s k) ≡ certificate_bytes j k
unfolding certificate_bytes block_certificate_bytes timeouts_bytes header_bytes le_bytes patch
with_sender_lem s j (by_block v x g) = refl
with_sender_lem s j (by_timeouts v ts) = refl

-- ---- records one after another
pub joined_more : (l : List (List ℕ)) (r : List ℕ) → joined (l ++ (r ∷ [])) ≡ joined l ++ r
unfolding joined
joined_more [] r = append-nil r
joined_more (s ∷ l) r = ap (λ (m : List ℕ). s ++ m) (joined_more l r) ∙ sym (append_assoc s (joined l) r)

pub joined_append : (l m : List (List ℕ)) → joined (l ++ m) ≡ joined l ++ joined m
unfolding joined
joined_append [] m = refl
joined_append (s ∷ l) m = ap (λ (k : List ℕ). s ++ k) (joined_append l m) ∙ sym (append_assoc s (joined l) (joined m))

-- ---- a record as long as its length field says, with a header
header_framed : (r : List ℕ) (size kind sender : ℕ) (rest : List ℕ) → r ≡ header_bytes size kind sender ++ rest → size < 2 ^ 32 → 8 ≤ size → length r ≡ size → Framed r
unfolding header_bytes le_bytes part
header_framed r size kind sender rest e small high long =
    let first : part (header_bytes size kind sender ++ rest) 0 4 ≡ le_bytes 4 size = refl in
    (omega (arith, long), ap (λ (s : List ℕ). le_nat (part s 0 4)) e ∙ ap le_nat first ∙ le_nat-le_bytes 4 size (omega (arith, small)) ∙ sym long)

pub vote_framed : (kind sender v : ℕ) (x : List ℕ) → length x ≡ name_length → Framed (vote_bytes kind sender v x)
unfolding vote_bytes
vote_framed kind sender v x h =
    header_framed _ vote_length kind sender (le_bytes 8 v ++ x) (simp append_assoc) (omega arith) (omega arith) (simp (length-append, length_header, length-le_bytes, h))

pub release_framed : (sender v : ℕ) (x : List ℕ) (h : ℕ) → length x ≡ name_length → Framed (release_bytes sender v x h)
unfolding release_bytes
release_framed sender v x h e =
    header_framed _ release_length 9 sender (le_bytes 8 v ++ x ++ le_bytes 8 h) (simp append_assoc) (omega arith) (omega arith) (simp (length-append, length_header, length-le_bytes, e))

pub block_framed : (sender v : ℕ) (x : List ℕ) (g : ℕ) → length x ≡ name_length → Framed (block_certificate_bytes sender v x g)
unfolding block_certificate_bytes
block_framed sender v x g e =
    header_framed _ block_certificate_length 3 sender (le_bytes 8 v ++ x ++ le_bytes 8 g) (simp append_assoc) (omega arith) (omega arith) (simp (length-append, length_header, length-le_bytes, e))

pub timeouts_framed : (sender v : ℕ) (row : List ℕ) → length row ≤ entry_room → Framed (timeouts_bytes sender v row)
unfolding timeouts_bytes
timeouts_framed sender v row h =
    header_framed _ (timeouts_head + length row) 6 sender (le_bytes 8 v ++ le_bytes 2 (length row / timeout_length) ++ le_bytes 6 0 ++ row) (simp append_assoc) (omega (arith, h)) (omega arith)
    (length_timeouts sender v row)

pub proposal_framed : (sender v : ℕ) (x y : List ℕ) (h : ℕ) (r : List ℕ) → length x ≡ name_length → length y ≡ name_length → length r ≤ entry_room → Framed (proposal_bytes sender v x y h r)
unfolding proposal_bytes
proposal_framed sender v x y h r a b e =
    let long : length (proposal_bytes sender v x y h r) ≡ proposal_head + length r = simp (length-append, length_header, length-le_bytes, a, b) (omega arith) in
    header_framed _ (proposal_head + length r) 7 sender (le_bytes 8 v ++ x ++ y ++ le_bytes 8 h ++ r) (simp append_assoc) (omega (arith, e)) (omega arith) long

pub encode_framed : (q : Content) → Fits q → Framed (encode q)
encode_framed q f = framed_stands (encode q) q (stands_encode q f)

-- another sender leaves the length and what the header says of it
pub sender_framed : (j : ℕ) (r : List ℕ) → Framed r → Framed (with_sender j r)
sender_framed j r f =
    let l = length-patch r 6 (le_bytes 2 j) in
    (omega (arith, l, f.0), ap le_nat (part_before r 6 (le_bytes 2 j) 0 4 (omega arith)) ∙ f.1 ∙ sym l)

pub sent_framed : (n : ℕ) (r : List ℕ) → Sent n r → Framed r
sent_framed n r s = subst Framed (sym s.is) (encode_framed s.says s.fits)
