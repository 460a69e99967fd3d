-- What is read, chosen or found is as its type says: timeouts, safe certificates, held blocks, and the counters after each action. Assumes nothing.
use mathlib.Core.Path.{◌≡◌, refl}
use mathlib.Core.Bool.{Bool, true, false, cond}
use mathlib.Core.List.{List, [], ◌∷◌, ◌++◌, map}
use Prim.Native.Nat.{ℕ, zero, suc, ◌+◌, ◌*◌, ◌≤◌}
use native.Mathlib.Nat.{lt_of_lt_of_le, pow-le-pow_right}
use native.Mathlib.Omega.{arith}
use lib.Dec.{lit<}
use lib.ListN.{length, take, drop, set, length-drop}
use Rattle.settings.specs.declared.Settings.{Settings}
use Rattle.settings.specs.Quorum.{replicas}
use Rattle.codec.specs.Bytes.{IsBytes, part}
use Rattle.codec.specs.Names.{same_bytes, zero_name, name_length}
use Rattle.codec.proofs.Laws.{length-part}
use Rattle.codec.proofs.Le.{bytes_part, le_nat-part, bytes_drop}
use Rattle.wire.specs.declared.Timeout.{Timeout}
use Rattle.wire.specs.Fields.{count_of, timeout_length, timeouts_head, slots}
use Rattle.wire.specs.Content.{timeout_of}
use Rattle.wire.specs.Fit.{IsName, TimeoutFits, All}
use Rattle.wire.proofs.Slots.{all_map, all_impl, FullLength, cut_whole}
use Rattle.certificate.specs.declared.Certificate.{Certificate}
use Rattle.certificate.specs.Rank.{carried_certificate, highest}
use Rattle.certificate.specs.Order.{carried_in, built_of, kept as kept_of}
use Rattle.certificate.specs.Safe.{safe_of_timeouts}
use Rattle.certificate.proofs.Adopting.{adopted_has, highest_has}
use Rattle.certificate.proofs.Backing.{backing_lt}
use Rattle.certificate.proofs.Chosen.{chosen_has}
use Rattle.blocks.specs.declared.Block.{Block}
use Rattle.blocks.specs.Store.{genesis, found, find, held, descends, only, kept, dropped}
use Rattle.memory.proofs.Clearing.{bytes_zero}
use Rattle.counters.specs.declared.Counters.{Counters}
use Rattle.counters.specs.Counters.{certificate_of, locks_of, signed_of, with_locks, adopting}
use Rattle.protocol.specs.Typed.{SignedTyped, CertificateTyped, BlockTyped, CountersTyped}

-- ---- lists of which every element is as its type says
module _ {A : Type 0} (P : A → Type 0) where
  pub all_append : (l m : List A) → All P l → All P m → All P (l ++ m)
  unfolding All
  all_append [] m p q = q
  all_append (x ∷ l) m p q = (p.0, all_append l m p.1 q)

  pub all_take : (n : ℕ) (l : List A) → All P l → All P (take n l)
  unfolding All
  all_take zero l p = tt
  all_take (suc n) [] p = tt
  all_take (suc n) (x ∷ l) p = (p.0, all_take n l p.1)

  all_drop : (n : ℕ) (l : List A) → All P l → All P (drop n l)
  unfolding All
  all_drop zero l p = p
  all_drop (suc n) [] p = tt
  all_drop (suc n) (x ∷ l) p = all_drop n l p.1

  pub all_set : (l : List A) (i : ℕ) (a : A) → All P l → P a → All P (set l i a)
  unfolding All
  all_set [] i a p q = tt
  all_set (x ∷ l) zero a p q = (q, p.1)
  all_set (x ∷ l) (suc i) a p q = (p.0, all_set l i a p.1 q)

-- ---- names
pub zero_is_name : IsName zero_name
zero_is_name = record { size = refl; bytes = bytes_zero name_length }

-- 32 bytes inside a list of bytes
pub part_is_name : (s : List ℕ) (at : ℕ) → IsBytes s → at + name_length ≤ length s → IsName (part s at name_length)
part_is_name s at b h = record { size = length-part s at name_length h; bytes = bytes_part s at name_length b }

-- ---- certificates
-- whatever the 112 bytes of a slot are, they are a timeout that fits
pub timeout_fits : (s : List ℕ) → length s ≡ timeout_length → IsBytes s → TimeoutFits (timeout_of s)
unfolding timeout_of
timeout_fits s l b =
    record {
      sender = le_nat-part 2 s 6 b;
      view = le_nat-part 8 s 8 b;
      high_view = le_nat-part 8 s 16 b;
      high_name = part_is_name s 24 b (omega arith);
      kind = le_nat-part 2 s 56 b;
      carried_view = le_nat-part 8 s 64 b;
      carried_name = part_is_name s 72 b (omega arith);
      signers = le_nat-part 8 s 104 b;
    }

pub slots_fit : (r : List ℕ) → IsBytes r → length r ≡ timeouts_head + timeout_length * count_of r → All TimeoutFits (map timeout_of (slots r))
slots_fit r b l =
    all_map (λ t. FullLength t × IsBytes t) TimeoutFits timeout_of (slots r) (λ t h. timeout_fits t h.0 h.1)
    (cut_whole (count_of r) (drop timeouts_head r) (bytes_drop timeouts_head r b) (omega (arith, length-drop timeouts_head r)))

carried_typed : (t : Timeout) → TimeoutFits t → CertificateTyped (carried_in t)
unfolding carried_certificate
carried_typed t f = record { view = f.carried_view; name = f.carried_name; signers = f.signers }

-- the safe certificate of any list of timeouts that fit
pub safe_typed : (s : Settings) (ts : List Timeout) → replicas s ≤ 64 → All TimeoutFits ts → CertificateTyped (safe_of_timeouts s ts)
unfolding safe_of_timeouts
safe_typed s [] h f = record { view = lit< tt; name = zero_is_name; signers = lit< tt }
safe_typed s (t ∷ l) h f =
    chosen_has CertificateTyped s t l (all_impl _ _ (t ∷ l) carried_typed f) (all_impl _ _ (t ∷ l) (λ u g b. built u g) f)
  where
    built : (u : Timeout) → TimeoutFits u → CertificateTyped (built_of s (t ∷ l) u)
    built u g =
        record {
          view = g.high_view;
          name = g.high_name;
          signers = lt_of_lt_of_le (backing_lt (replicas s) u.high.view.0 u.high.name (t ∷ l)) (pow-le-pow_right (lit< tt) h);
        }

-- ---- blocks
genesis_typed : BlockTyped genesis
genesis_typed = record { name = zero_is_name; parent = zero_is_name; height = lit< tt }

find_typed : (x : List ℕ) (l : List Block) → All BlockTyped l → BlockTyped (find x l).block
unfolding find All
find_typed x [] a = genesis_typed
find_typed x (b ∷ l) a = go (same_bytes b.name x) (find_typed x l a.1)
  where
    go : (t : Bool) → BlockTyped (find x l).block → BlockTyped (cond t (found b) (find x l)).block
    go true h = a.0
    go false h = h

-- what a search answers, found or not
pub held_typed : (tip : Block) (l : List Block) (x : List ℕ) → BlockTyped tip → All BlockTyped l → BlockTyped (held tip l x).block
unfolding held
held_typed tip l x b a = go (same_bytes tip.name x)
  where
    go : (t : Bool) → BlockTyped (cond t (found tip) (find x l)).block
    go true = b
    go false = find_typed x l a

only_typed : (test : Block → Bool) (l : List Block) → All BlockTyped l → All BlockTyped (only test l)
unfolding only All
only_typed test [] a = tt
only_typed test (b ∷ l) a = go (test b) (only_typed test l a.1)
  where
    go : (t : Bool) → All BlockTyped (only test l) → All BlockTyped (cond t (b ∷ only test l) (only test l))
    go true h = (a.0, h)
    go false h = h

pub dropped_typed : (tip : Block) (k : ℕ) (l : List Block) → All BlockTyped l → All BlockTyped (dropped tip k l)
unfolding dropped kept
dropped_typed tip k l a =
    all_append BlockTyped _ _ (only_typed (descends tip (take k l)) (take k l) (all_take BlockTyped k l a)) (all_drop BlockTyped (length (kept tip (take k l))) l a)

-- ---- counters
locks_typed : (c : Counters) → CountersTyped c → (b : Bool) → CertificateTyped (kept_of b (locks_of c))
unfolding locks_of certificate_of
locks_typed c t true = record { view = t.lock.view; name = t.lock.name; signers = t.lock.signers }
locks_typed c t false = record { view = t.weak.view; name = t.weak.name; signers = t.weak.signers }

pub highest_typed : (c : Counters) → CountersTyped c → CertificateTyped (highest (locks_of c))
highest_typed c t = highest_has CertificateTyped (locks_of c) (locks_typed c t)

signed_typed : (k : Certificate) → CertificateTyped k → SignedTyped (signed_of k)
unfolding signed_of
signed_typed k t = record { view = t.view; name = t.name; signers = t.signers }

pub adopting_typed : (c : Counters) (k : Certificate) → CountersTyped c → CertificateTyped k → CountersTyped (adopting c k)
unfolding adopting with_locks
adopting_typed c k t h =
    record {
      view = t.view;
      timed = t.timed;
      high = t.high;
      lock = signed_typed _ (adopted_has CertificateTyped true k (locks_of c) (locks_typed c t true) (λ e. h));
      weak = signed_typed _ (adopted_has CertificateTyped false k (locks_of c) (locks_typed c t false) (λ e. h));
      tip = t.tip;
    }
