-- Each kind of record as a row of fields and what stands behind it: where a content stands in bytes, they are its encoding. Assumes nothing.
use mathlib.Core.Path.{◌≡◌, refl, sym, ap, ◌∙◌, subst}
use mathlib.Core.List.{List, [], ◌∷◌, map, append_assoc, append-nil}
use Prim.Native.Nat.{ℕ, ◌+◌, ◌*◌, ◌/◌, ◌^◌, ◌≤◌, ◌<◌}
use native.Mathlib.Nat.{zero-add}
use native.Mathlib.Omega.{arith}
use lib.Dec.{lit<, lit≤}
use lib.ListN.{length, drop, length-append, length-drop, drop_of_length-le}
use Rattle.codec.specs.Bytes.{IsBytes}
use Rattle.wire.specs.declared.Timeout.{Timeout}
use Rattle.wire.specs.Fields.{length_of, vote_length, block_certificate_length, timeout_length, timeouts_head, proposal_head, block_length, release_length}
use Rattle.wire.specs.Content.{Certificate, by_block, by_timeouts, Content, vote, commit, certificate, timeout, proposal, block, release}
use Rattle.wire.specs.Encode.{header_bytes, vote_bytes, block_certificate_bytes, timeout_bytes, timeouts_bytes, proposal_bytes, block_bytes, release_bytes, joined, certificate_bytes, encode}
use Rattle.wire.specs.Fit.{IsName, TimeoutFits, All, CertificateFits, Fits}
use Rattle.wire.proofs.Lengths.{length_timeout, length_timeouts, length_block_certificate}
use Rattle.codec.proofs.Le.{bytes_append}
use Rattle.wire.proofs.Rows.{Field, num, raw, FieldFits, width, written, Reads, length_written, bytes_written, drop-written, reads_written, written_reads, fits_reads}

-- the header, then the others
abbrev headed : ℕ → ℕ → ℕ → List Field → List Field
headed size kind sender fs = num 4 size ∷ num 2 kind ∷ num 2 sender ∷ fs

abbrev name : List ℕ → Field
name x = raw 32 x

abbrev pub rest_of : Content → List ℕ
rest_of (vote s v x) = []
rest_of (commit s v x) = []
rest_of (certificate s (by_block v x g)) = []
rest_of (certificate s (by_timeouts v ts)) = joined (map timeout_bytes ts)
rest_of (timeout t) = []
rest_of (proposal s v x y h k) = certificate_bytes s k
rest_of (block s x y h) = []
rest_of (release s v x h) = []

abbrev pub fields_of : Content → List Field
fields_of (vote s v x) = headed vote_length 1 s (num 8 v ∷ name x ∷ [])
fields_of (commit s v x) = headed vote_length 2 s (num 8 v ∷ name x ∷ [])
fields_of (certificate s (by_block v x g)) = headed block_certificate_length 3 s (num 8 v ∷ name x ∷ num 8 g ∷ [])
fields_of (certificate s (by_timeouts v ts)) =
    headed (timeouts_head + length (joined (map timeout_bytes ts))) 6 s
    (num 8 v ∷ num 2 (length (joined (map timeout_bytes ts)) / timeout_length) ∷ num 6 0 ∷ [])
fields_of (timeout t) =
    headed timeout_length 5 t.sender
    (num 8 t.view.0 ∷ num 8 t.high.view.0 ∷ name t.high.name
    ∷ num 2 t.carried.kind ∷ num 6 0 ∷ num 8 t.carried.view.0 ∷ name t.carried.name ∷ num 8 t.carried.signers ∷ [])
fields_of (proposal s v x y h k) = headed (proposal_head + length (certificate_bytes s k)) 7 s (num 8 v ∷ name x ∷ name y ∷ num 8 h ∷ [])
fields_of (block s x y h) = headed block_length 8 s (name x ∷ name y ∷ num 8 h ∷ [])
fields_of (release s v x h) = headed release_length 9 s (num 8 v ∷ name x ∷ num 8 h ∷ [])

pub encode_fields : (x : Content) → encode x ≡ written (fields_of x) (rest_of x)
unfolding encode vote_bytes block_certificate_bytes timeout_bytes timeouts_bytes proposal_bytes block_bytes release_bytes header_bytes certificate_bytes
encode_fields (vote s v x) = simp (append_assoc, append-nil)
encode_fields (commit s v x) = simp (append_assoc, append-nil)
encode_fields (certificate s (by_block v x g)) = simp (append_assoc, append-nil)
encode_fields (certificate s (by_timeouts v ts)) = simp (append_assoc, append-nil)
encode_fields (timeout t) = simp (append_assoc, append-nil)
encode_fields (proposal s v x y h k) = simp (append_assoc, append-nil)
encode_fields (block s x y h) = simp (append_assoc, append-nil)
encode_fields (release s v x h) = simp (append_assoc, append-nil)

-- ---- the fields of a content that fits, fit
name_fits : {x : List ℕ} → IsName x → FieldFits (name x)
name_fits h = (h.size, h.bytes)

is_name : {x : List ℕ} → FieldFits (name x) → IsName x
is_name h = record { size = h.0; bytes = h.1 }

timeout_fields : (t : Timeout) → TimeoutFits t → All FieldFits (fields_of (timeout t))
unfolding All
timeout_fields t h =
    (lit< tt, (lit< tt, (h.sender, (h.view, (h.high_view, (name_fits h.high_name, (h.kind, (lit< tt, (h.carried_view, (name_fits h.carried_name, (h.signers, tt)))))))))))

pub length_row : (ts : List Timeout) → All TimeoutFits ts → length (joined (map timeout_bytes ts)) ≡ timeout_length * length ts
unfolding All joined
length_row [] h = refl
length_row (t ∷ ts) h =
    length-append (timeout_bytes t) (joined (map timeout_bytes ts))
    ∙ (let a = length_timeout t h.0 in let b = length_row ts h.1 in omega arith)

certificate_fields : (s : ℕ) (k : Certificate) → s < 2 ^ 16 → CertificateFits k → All FieldFits (fields_of (certificate s k))
unfolding All CertificateFits
certificate_fields s (by_block v x g) hs h = (lit< tt, (lit< tt, (hs, (h.0, (name_fits h.1, (h.2, tt))))))
certificate_fields s (by_timeouts v ts) hs h =
    let l = length_row ts h.2 in
    (omega arith, (lit< tt, (hs, (h.0, (omega arith, (lit< tt, tt))))))

length_certificate : (s : ℕ) (k : Certificate) → CertificateFits k → length (certificate_bytes s k) < 2 ^ 31
unfolding certificate_bytes CertificateFits
length_certificate s (by_block v x g) h = omega (arith, length_block_certificate x h.1 s v g)
length_certificate s (by_timeouts v ts) h = omega (arith, length_timeouts s v (joined (map timeout_bytes ts)), length_row ts h.2)

pub fits_fields : (x : Content) → Fits x → All FieldFits (fields_of x)
unfolding All Fits
fits_fields (vote s v x) h = (lit< tt, (lit< tt, (h.0, (h.1, (name_fits h.2, tt)))))
fits_fields (commit s v x) h = (lit< tt, (lit< tt, (h.0, (h.1, (name_fits h.2, tt)))))
fits_fields (certificate s k) h = certificate_fields s k h.0 h.1
fits_fields (timeout t) h = timeout_fields t h
fits_fields (proposal s v x y i k) h =
    let l = length_certificate s k h.5 in
    (omega arith, (lit< tt, (h.0, (h.1, (name_fits h.2, (name_fits h.3, (h.4, tt)))))))
fits_fields (block s x y i) h = (lit< tt, (lit< tt, (h.0, (name_fits h.1, (name_fits h.2, (h.3, tt))))))
fits_fields (release s v x i) h = (lit< tt, (lit< tt, (h.0, (h.1, (name_fits h.2, (h.3, tt))))))

pub length-encode : (x : Content) → Fits x → length (encode x) ≡ width (fields_of x) + length (rest_of x)
length-encode x h = ap length (encode_fields x) ∙ length_written (fields_of x) (rest_of x) (fits_fields x h)

-- ---- a content stands in bytes: they say its fields, and what it has behind them is behind them
pub record Stands (r : List ℕ) (x : Content) : Type 0 where
  pub reads : Reads r 0 (fields_of x)
  pub inside : width (fields_of x) ≤ length r
  pub rest : drop (width (fields_of x)) r ≡ rest_of x

-- then they are its encoding, and in the encoding it stands
pub encode_stands : (r : List ℕ) (x : Content) → IsBytes r → Stands r x → encode x ≡ r
encode_stands r x b h =
    encode_fields x
    ∙ ap (written (fields_of x)) (sym h.rest ∙ ap (λ (n : ℕ). drop n r) (sym (zero-add (width (fields_of x)))))
    ∙ written_reads r b 0 (fields_of x) (omega arith) h.reads

pub stands_encode : (x : Content) → Fits x → Stands (encode x) x
stands_encode x f =
    let h = fits_fields x f in
    record {
      reads = reads_written (encode x) 0 (fields_of x) (rest_of x) h (encode_fields x);
      inside = omega (arith, length-encode x f);
      rest = ap (drop (width (fields_of x))) (encode_fields x) ∙ drop-written (fields_of x) (rest_of x) h;
    }

pub length_stands : (r : List ℕ) (x : Content) → Stands r x → length r ≡ width (fields_of x) + length (rest_of x)
length_stands r x h =
    let l = sym (length-drop (width (fields_of x)) r) ∙ ap length h.rest in
    let i = h.inside in
    omega arith

-- with nothing behind its fields
pub stands_alone : (r : List ℕ) (x : Content) → rest_of x ≡ [] → length r ≡ width (fields_of x) → Reads r 0 (fields_of x) → Stands r x
stands_alone r x e l h =
    record { reads = h; inside = omega arith; rest = drop_of_length-le r {i = width (fields_of x)} (omega arith) ∙ sym e }

-- what the header says of the length
header_reads : (r : List ℕ) (x : Content) → Reads r 0 (fields_of x) → (8 ≤ width (fields_of x)) × (length_of r ≡ width (fields_of x) + length (rest_of x))
header_reads r (vote s v x) h = (lit≤ tt, h.0)
header_reads r (commit s v x) h = (lit≤ tt, h.0)
header_reads r (certificate s (by_block v x g)) h = (lit≤ tt, h.0)
header_reads r (certificate s (by_timeouts v ts)) h = (lit≤ tt, h.0)
header_reads r (timeout t) h = (lit≤ tt, h.0)
header_reads r (proposal s v x y i k) h = (lit≤ tt, h.0)
header_reads r (block s x y i) h = (lit≤ tt, h.0)
header_reads r (release s v x i) h = (lit≤ tt, h.0)

pub framed_stands : (r : List ℕ) (x : Content) → Stands r x → (8 ≤ length r) × (length_of r ≡ length r)
framed_stands r x h = let l = length_stands r x h in let m = header_reads r x h.reads in omega arith

-- a content that stands in bytes fits, if what it has inside does
abbrev Inside : Certificate → Type 0
Inside (by_block v x g) = Unit {0}
Inside (by_timeouts v ts) = All TimeoutFits ts

abbrev pub Inner : Content → Type 0
Inner (vote s v x) = Unit {0}
Inner (commit s v x) = Unit {0}
Inner (certificate s k) = Inside k
Inner (timeout t) = Unit {0}
Inner (proposal s v x y h k) = CertificateFits k
Inner (block s x y h) = Unit {0}
Inner (release s v x h) = Unit {0}

fields_fit : (x : Content) → All FieldFits (fields_of x) → Inner x → Fits x
unfolding All Fits CertificateFits
fields_fit (vote s v x) (_, (_, (a, (b, (c, _))))) i = (a, b, is_name c)
fields_fit (commit s v x) (_, (_, (a, (b, (c, _))))) i = (a, b, is_name c)
fields_fit (certificate s (by_block v x g)) h i = let (_, (_, (a, (b, (c, (d, _)))))) = h in (a, (b, is_name c, d))
fields_fit (certificate s (by_timeouts v ts)) h i =
    let (_, (_, (a, (b, (c, _))))) = h in
    let l = length_row ts i in
    (a, (b, omega arith, i))
fields_fit (timeout t) h i =
    let (_, (_, (a, (b, (c, (d, (e, (_, (f, (g, (k, _))))))))))) = h in
    record { sender = a; view = b; high_view = c; high_name = is_name d; kind = e; carried_view = f; carried_name = is_name g; signers = k }
fields_fit (proposal s v x y h k) f i = let (_, (_, (a, (b, (c, (d, (e, _))))))) = f in (a, b, is_name c, is_name d, e, i)
fields_fit (block s x y h) f i = let (_, (_, (a, (b, (c, (d, _)))))) = f in (a, is_name b, is_name c, d)
fields_fit (release s v x h) f i = let (_, (_, (a, (b, (c, (d, _)))))) = f in (a, b, is_name c, d)

pub fits_stands : (r : List ℕ) (x : Content) → IsBytes r → Stands r x → Inner x → Fits x
fits_stands r x b h i = fields_fit x (fits_reads r b 0 (fields_of x) (omega (arith, h.inside)) h.reads) i

-- ---- the encoding of a content that fits is bytes
no_bytes : IsBytes []
no_bytes i = lit< tt

bytes_fields : (x : Content) → All FieldFits (fields_of x) → IsBytes (rest_of x) → IsBytes (encode x)
bytes_fields x h b = subst IsBytes (sym (encode_fields x)) (bytes_written (fields_of x) (rest_of x) h b)

bytes_row : (ts : List Timeout) → All TimeoutFits ts → IsBytes (joined (map timeout_bytes ts))
unfolding All joined encode
bytes_row [] h = no_bytes
bytes_row (t ∷ ts) h =
    bytes_append (timeout_bytes t) (joined (map timeout_bytes ts)) (bytes_fields (timeout t) (timeout_fields t h.0) no_bytes) (bytes_row ts h.1)

bytes_certificate : (s : ℕ) (k : Certificate) → CertificateFits k → IsBytes (rest_of (certificate s k))
unfolding CertificateFits
bytes_certificate s (by_block v x g) h = no_bytes
bytes_certificate s (by_timeouts v ts) h = bytes_row ts h.2

bytes_rest : (x : Content) → Fits x → IsBytes (rest_of x)
unfolding Fits encode
bytes_rest (vote s v x) h = no_bytes
bytes_rest (commit s v x) h = no_bytes
bytes_rest (certificate s k) h = bytes_certificate s k h.1
bytes_rest (timeout t) h = no_bytes
bytes_rest (proposal s v x y i k) h = bytes_fields (certificate s k) (certificate_fields s k h.0 h.5) (bytes_certificate s k h.5)
bytes_rest (block s x y i) h = no_bytes
bytes_rest (release s v x i) h = no_bytes

pub bytes_encode : (x : Content) → Fits x → IsBytes (encode x)
bytes_encode x h = bytes_fields x (fits_fields x h) (bytes_rest x h)
