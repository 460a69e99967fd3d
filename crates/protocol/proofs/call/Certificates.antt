-- The forms of certificates: what one that comes in certifies, one with another sender, one that is formed of what is kept. Assumes nothing.
use Prim.Native.Nat.{ℕ, zero, suc, ◌+◌, ◌*◌, ◌/◌, ◌≤◌, ◌<◌}
use native.Mathlib.Nat.{lt_of_lt_of_le, pow-le-pow_right, mul-suc}
use native.Mathlib.Omega.{arith}
use mathlib.Core.Path.{◌≡◌, refl, ap, ◌∙◌}
use mathlib.Core.Bool.{Bool, true, false, cond}
use mathlib.Core.Logic.{inl, inr, ⊎_elim}
use mathlib.Core.List.{List, [], ◌∷◌, ◌++◌, map, append_assoc}
use lib.Dec.{eqb, lit<}
use lib.ListN.{length, drop, length-append}
use Rattle.settings.specs.declared.Settings.{Settings}
use Rattle.settings.specs.Quorum.{largest, last_view, replicas}
use Rattle.codec.specs.Bytes.{IsBytes, part, le_nat, le_bytes}
use Rattle.codec.specs.Names.{name_length}
use Rattle.codec.proofs.Laws.{part_before, part_behind, length-patch, bytes_patch}
use Rattle.codec.proofs.Le.{bytes_append, bytes_part, le_nat-part, length-le_bytes}
use Rattle.wire.specs.Fields.{kind_of, view_of, count_of, block_certificate_length, timeout_length, timeouts_head, slots}
use Rattle.wire.specs.Content.{Certificate, by_block, by_timeouts, certificate_of, certificate, timeout_of}
use Rattle.wire.specs.Encode.{header_bytes, block_certificate_bytes, timeouts_bytes, encode, certificate_bytes}
use Rattle.wire.specs.Fit.{IsName, IsU16, IsU64, All, CertificateFits, Fits}
use Rattle.wire.proofs.Lengths.{length_block_certificate, length_timeouts}
use Rattle.wire.proofs.Rows.{bytes_le_bytes, Field, num, FieldFits, Reads, written, reads_written, bytes_written}
use Rattle.wire.proofs.Tables.{stands_encode, bytes_encode}
use Rattle.certificate.specs.Safe.{safe_certificate}
use Rattle.certificate.proofs.Timeouts.{count_timeouts}
use Rattle.memory.specs.declared.decided.Quorums.{Quorums}
use Rattle.memory.specs.Layout.{memory_length, row_size, vote_row, commit_row, timeout_row}
use Rattle.memory.specs.Kept.{has, kept, gathered, tally}
use Rattle.memory.specs.Decided.{Choice, next_decided}
use Rattle.memory.specs.Formed.{formed}
use Rattle.memory.proofs.Apart.{row_fits, votes, commits, timeouts}
use Rattle.memory.proofs.Choosing.{Entry, next_candidate}
use Rattle.memory.proofs.Places.{entry_inside}
use Rattle.memory.proofs.Rows.{length-kept, tally-signers}
use Rattle.protocol.specs.Work.{Work}
use Rattle.protocol.specs.Typed.{CertificateTyped}
use Rattle.protocol.specs.Refusals.{view_of_progress}
use Rattle.protocol.specs.Events.{with_sender}
use Rattle.protocol.proofs.call.Typing.{part_is_name, slots_fit, safe_typed}
use Rattle.protocol.proofs.call.Regular.{EntryForm, ProgressForm}

-- ---- what a record of the form certifies
pub form_fits : (n : ℕ) (r : List ℕ) → IsBytes r → EntryForm n r → CertificateFits (certificate_of r)
unfolding certificate_of CertificateFits
form_fits n r b (inl (k, l)) = rw k (le_nat-part 8 r 8 b, part_is_name r 16 b (omega arith), le_nat-part 8 r 48 b)
form_fits n r b (inr (k, c, l)) =
    rw k (le_nat-part 8 r 8 b, omega (arith, count_timeouts (count_of r) (drop timeouts_head r), le_nat-part 2 r 16 b), slots_fit r b l)

pub fits_typed : (s : Settings) (k : Certificate) → replicas s ≤ 64 → CertificateFits k → CertificateTyped (safe_certificate s k)
unfolding CertificateFits safe_certificate
fits_typed s (by_block v x g) h f = record { view = f.0; name = f.1; signers = f.2 }
fits_typed s (by_timeouts v ts) h f = safe_typed s ts h f.2

pub form_view : (W : Work) (r : List ℕ) → view_of_progress (certificate_of r) ≡ view_of r
unfolding certificate_of
form_view W r = go (eqb (kind_of r) 3)
  where
    go : (t : Bool) → view_of_progress (cond t (by_block (view_of r) (part r 16 32) (le_nat (part r 48 8))) (by_timeouts (view_of r) (map timeout_of (slots r)))) ≡ view_of r
    go true = refl
    go false = refl

-- ---- with another sender
module _ (j : ℕ) (r : List ℕ) where
  length_sender : length (with_sender j r) ≡ length r
  length_sender = length-patch r 6 (le_bytes 2 j)

  sender_kind : kind_of (with_sender j r) ≡ kind_of r
  sender_kind = ap le_nat (part_before r 6 (le_bytes 2 j) 4 2 (omega arith))

  sender_behind : (a k : ℕ) → 8 ≤ a → part (with_sender j r) a k ≡ part r a k
  sender_behind a k h = part_behind r 6 (le_bytes 2 j) a k (omega (arith, length-le_bytes 2 j))

  pub sender_bytes : IsBytes r → IsBytes (with_sender j r)
  sender_bytes b = bytes_patch r 6 (le_bytes 2 j) b (bytes_le_bytes 2 j)

  pub sender_form : (n : ℕ) → EntryForm n r → EntryForm n (with_sender j r)
  sender_form n (inl (k, l)) = inl (sender_kind ∙ k, length_sender ∙ l)
  sender_form n (inr (k, c, l)) =
      let e : count_of (with_sender j r) ≡ count_of r = ap le_nat (sender_behind 16 2 (omega arith)) in
      inr (sender_kind ∙ k, rw e c, rw e (length_sender ∙ l))

-- ---- formed of kept timeouts
module _ (m : List ℕ) (row width : ℕ) where
  -- what is gathered is bytes, of so many whole entries
  bytes_gathered : (i k : ℕ) → IsBytes m → IsBytes (gathered m row width i k)
  unfolding gathered kept
  bytes_gathered i zero b = λ j. lit< tt
  bytes_gathered i (suc k) b = go (has m row i) (bytes_gathered (suc i) k b)
    where
      go : (t : Bool) → IsBytes (gathered m row width (suc i) k) → IsBytes (cond t (kept m row width i ++ gathered m row width (suc i) k) (gathered m row width (suc i) k))
      go true h = bytes_append (kept m row width i) _ (bytes_part m _ width b) h
      go false h = h

  gathered_whole : (i k n : ℕ) → i + k ≤ n → row + (8 + width * n) ≤ length m → (c : ℕ) × (c ≤ k) × (length (gathered m row width i k) ≡ width * c)
  unfolding gathered
  gathered_whole i zero n h l = (0, omega arith, omega arith)
  gathered_whole i (suc k) n h l = go (has m row i) (gathered_whole (suc i) k n (omega arith) l)
    where
      go : (t : Bool) → (c : ℕ) × (c ≤ k) × (length (gathered m row width (suc i) k) ≡ width * c)
          → (c : ℕ) × (c ≤ suc k) × (length (cond t (kept m row width i ++ gathered m row width (suc i) k) (gathered m row width (suc i) k)) ≡ width * c)
      go true (c, h₁, e) = (
        suc c,
        omega arith,
        omega (arith, length-append (kept m row width i) (gathered m row width (suc i) k), length-kept m row width i n (let b : i < n = omega arith in b) l, mul-suc width c),
      )
      go false (c, h₁, e) = (c, omega arith, e)

-- the fields before a row of timeouts
abbrev timeouts_fields : ℕ → ℕ → List ℕ → List Field
timeouts_fields s v row = num 4 (timeouts_head + length row) ∷ num 2 6 ∷ num 2 s ∷ num 8 v ∷ num 2 (length row / timeout_length) ∷ num 6 0 ∷ []

timeouts_written : (s v : ℕ) (row : List ℕ) → timeouts_bytes s v row ≡ written (timeouts_fields s v row) row
unfolding timeouts_bytes header_bytes
timeouts_written s v row = simp append_assoc

timeouts_form : (s v c n : ℕ) (row : List ℕ) → IsU16 s → v < last_view → c ≤ n → n ≤ largest → length row ≡ timeout_length * c → IsBytes row → ProgressForm n (timeouts_bytes s v row)
unfolding All
timeouts_form s v c n row hs hv hc hn l b =
    let r = timeouts_bytes s v row in
    let fits : All FieldFits (timeouts_fields s v row) = (omega arith, (lit< tt, (hs, (omega arith, (omega arith, (lit< tt, tt)))))) in
    let reads : Reads r 0 (timeouts_fields s v row) = reads_written r 0 (timeouts_fields s v row) row fits (timeouts_written s v row) in
    let count : count_of r ≡ c = omega (arith, reads.1.1.1.1.0, l) in
    record {
      bytes = rw (timeouts_written s v row) (bytes_written (timeouts_fields s v row) row fits b);
      form = inr (reads.1.0, omega arith, omega (arith, length_timeouts s v row));
      view = omega (arith, reads.1.1.1.0);
    }

-- the row of kept timeouts of a view may hold any bytes
pub formed_form : (m : List ℕ) (v n s : ℕ) → IsBytes m → memory_length ≤ length m → n ≤ largest → s < n → v < last_view → ProgressForm n (formed m v n s)
unfolding formed
formed_form m v n s b long few member low =
    let (c, h, l) = gathered_whole m (timeout_row v) timeout_length 0 n n (omega arith) (omega (arith, row_fits timeouts v)) in
    timeouts_form s v c n (gathered m (timeout_row v) timeout_length 0 n) (omega arith) low h few l (bytes_gathered m (timeout_row v) timeout_length 0 n b)

-- ---- formed of kept votes
module _ (s v : ℕ) (x : List ℕ) (g : ℕ) (hs : IsU16 s) (hv : v < last_view) (hx : IsName x) (hg : IsU64 g) where
  pub block_kind : (kind_of (block_certificate_bytes s v x g) ≡ 3) × (length (block_certificate_bytes s v x g) ≡ block_certificate_length)
  unfolding encode certificate_bytes Fits CertificateFits
  block_kind = ((stands_encode (certificate s (by_block v x g)) (hs, (omega arith, hx, hg))).reads.1.0, length_block_certificate x hx s v g)

  pub block_form : (n : ℕ) → ProgressForm n (block_certificate_bytes s v x g)
  unfolding encode certificate_bytes Fits CertificateFits
  block_form n =
      let k = certificate s (by_block v x g) in
      let fits : Fits k = (hs, (omega arith, hx, hg)) in
      record { bytes = bytes_encode k fits; form = inl block_kind; view = omega (arith, (stands_encode k fits).reads.1.1.1.0) }

-- the signers of a name among n replicas
pub tally_u64 : (m : List ℕ) (row : ℕ) (x : List ℕ) (n : ℕ) → n ≤ largest → IsU64 (tally m row x n).signers
tally_u64 m row x n h = let w : n ≤ 64 = omega arith in lt_of_lt_of_le (tally-signers m row x n) (pow-le-pow_right (lit< tt) w)

kept_name : (m : List ℕ) (row i : ℕ) → IsBytes m → i < largest → row + row_size name_length ≤ length m → IsName (kept m row name_length i)
unfolding kept
kept_name m row i b h l = part_is_name m _ b (omega (arith, entry_inside name_length i largest h))

-- a decided name is one that is kept: 32 bytes
pub decided_name : (m : List ℕ) (q : Quorums) (after : Choice) → IsBytes m → memory_length ≤ length m → q.n ≤ largest → (next_decided m q after).some ≡ true → IsName (next_decided m q after).name
decided_name m q after b long few e =
    ⊎_elim (entry (vote_row q.view.0) _ (omega (arith, row_fits votes q.view.0))) (entry (commit_row q.view.0) _ (omega (arith, row_fits commits q.view.0)))
    (next_candidate m q after e).entry
  where
    entry : (row : ℕ) (x : List ℕ) → row + row_size name_length ≤ length m → Entry m row q.n x → IsName x
    entry row x l h = rw (← h.name) (kept_name m row h.by b (omega (arith, h.low)) l)
