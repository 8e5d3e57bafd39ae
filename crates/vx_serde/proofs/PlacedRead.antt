-- Buffers stand in the segment where their descriptors say.
use Rattle.std.proofs.Common.{ℕ, ◌≡◌, ◌+◌, ◌-◌, ◌%◌, ◌<◌, ◌≤◌, ◌^◌, Bool, true, false, List, [], ◌∷◌, ◌++◌, length, take, drop, replicate, refl, sym, ap, ◌∙◌, arith, length-append}
use Rattle.std.specs.Prelude.{All, if◌then◌else◌}
use Rattle.std.proofs.Math.Nat.{mod-lt, pow-le-pow_right}
use Rattle.std.proofs.Math.Seq.{take-append_seam, drop-append_seam}
use Rattle.std.proofs.lemmas.List.{append_assoc, length-replicate}
use Rattle.std.proofs.lemmas.List.Elements.{All-nil, All-cons, All-head, All-tail}
use Rattle.std.proofs.lemmas.Nat.{pow_pos}
use Rattle.vx_buffer.specs.Buffer.{Buffer}
use Rattle.vx_serde.specs.declared.options.SerializeOptions.{SerializeOptions}
use Rattle.vx_wire_tree.specs.Limits.{IsDescribable, AreDescribable}
use Rattle.vx_serde.specs.MessageValue.{IsDescribed}
use Rattle.vx_serialized.specs.Blob.{buffers_at, end_of}
use Rattle.vx_serde.specs.Placing.{gap_to, pad, descriptors_from, data_from}

-- After its pad, a buffer's bytes stand where its descriptor says.
taken : (before zeros bytes after : List ℕ) (p n : ℕ) → length before ≡ p → length zeros ≡ n → take (length bytes) (drop (p + n) (before ++ (zeros ++ (bytes ++ after)))) ≡ bytes
taken before zeros bytes after p n e g =
    let at : length (before ++ zeros) ≡ p + n = omega (arith, length-append before zeros, e, g) in
    let shift : before ++ (zeros ++ (bytes ++ after)) ≡ (before ++ zeros) ++ (bytes ++ after) = sym (append_assoc before zeros (bytes ++ after)) in
    ap (λ k. take (length bytes) (drop k (before ++ (zeros ++ (bytes ++ after))))) (sym at)
    ∙ ap (λ s. take (length bytes) (drop (length (before ++ zeros)) s)) shift
    ∙ ap (λ s. take (length bytes) s) (drop-append_seam (before ++ zeros) (bytes ++ after))
    ∙ take-append_seam bytes after

-- Descriptors give back the buffers that they were made for, whatever stands before the data and after it.
pub buffers_at-descriptors_from : (options : SerializeOptions) (position : ℕ) (bs : List Buffer) (before after : List ℕ) (p : ℕ) → length before ≡ p
    → buffers_at (before ++ (data_from options position bs ++ after)) p (descriptors_from options position bs) ≡ bs
buffers_at-descriptors_from options position [] before after p e = refl
buffers_at-descriptors_from options position (b ∷ bs) before after p e =
    let n = pad options b.exponent position in
    let zeros = replicate n 0 in
    let rest = data_from options (position + n + length b.bytes) bs in
    let regroup : (zeros ++ (b.bytes ++ rest)) ++ after ≡ zeros ++ (b.bytes ++ (rest ++ after)) = append_assoc zeros (b.bytes ++ rest) after ∙ ap (λ s. zeros ++ s) (append_assoc b.bytes rest after) in
    let whole : before ++ ((zeros ++ (b.bytes ++ rest)) ++ after) ≡ before ++ (zeros ++ (b.bytes ++ (rest ++ after))) = ap (λ s. before ++ s) regroup in
    let passed : before ++ (zeros ++ (b.bytes ++ (rest ++ after))) ≡ ((before ++ zeros) ++ b.bytes) ++ (rest ++ after) =
    sym (append_assoc before zeros (b.bytes ++ (rest ++ after))) ∙ sym (append_assoc (before ++ zeros) b.bytes (rest ++ after)) in
    let first : take (length b.bytes) (drop (p + n) (before ++ ((zeros ++ (b.bytes ++ rest)) ++ after))) ≡ b.bytes =
    ap (λ s. take (length b.bytes) (drop (p + n) s)) whole ∙ taken before zeros b.bytes (rest ++ after) p n e (length-replicate {A = ℕ} n 0) in
    let place : length ((before ++ zeros) ++ b.bytes) ≡ p + n + length b.bytes =
    omega (arith, length-append (before ++ zeros) b.bytes, length-append before zeros, e, length-replicate {A = ℕ} n 0) in
    let others = ap (λ s. buffers_at s (p + n + length b.bytes) (descriptors_from options (position + n + length b.bytes) bs)) (whole ∙ passed)
    ∙ buffers_at-descriptors_from options (position + n + length b.bytes) bs ((before ++ zeros) ++ b.bytes) after (p + n + length b.bytes) place in
    λ k. record { bytes = first k; exponent = b.exponent } ∷ others k

-- The last buffer ends where the data ends.
pub end_of-descriptors_from : (options : SerializeOptions) (position : ℕ) (bs : List Buffer) (p : ℕ) → end_of p (descriptors_from options position bs) ≡ p + length (data_from options position bs)
end_of-descriptors_from options position [] p = omega arith
end_of-descriptors_from options position (b ∷ bs) p =
    let n = pad options b.exponent position in
    let rest = data_from options (position + n + length b.bytes) bs in
    omega (arith, end_of-descriptors_from options (position + n + length b.bytes) bs (p + n + length b.bytes), length-append (replicate n 0) (b.bytes ++ rest), length-append b.bytes rest, length-replicate {A = ℕ} n 0)

-- The alignments are the buffers' own, and nothing is compressed.
pub aligned-descriptors_from : (options : SerializeOptions) (position : ℕ) (bs : List Buffer) → AreDescribable bs → All (λ d. d.exponent ≤ 16) (descriptors_from options position bs)
aligned-descriptors_from options position [] fit = All-nil (λ d. d.exponent ≤ 16)
aligned-descriptors_from options position (b ∷ bs) fit =
    let rest = position + pad options b.exponent position + length b.bytes in
    All-cons (λ d. d.exponent ≤ 16) _ (descriptors_from options rest bs) (All-head (λ b. IsDescribable b) b bs fit).exponent
    (aligned-descriptors_from options rest bs (All-tail (λ b. IsDescribable b) b bs fit))

pub plain-descriptors_from : (options : SerializeOptions) (position : ℕ) (bs : List Buffer) → All (λ d. d.compression ≡ 0) (descriptors_from options position bs)
plain-descriptors_from options position [] = All-nil (λ d. d.compression ≡ 0)
plain-descriptors_from options position (b ∷ bs) =
    let rest = position + pad options b.exponent position + length b.bytes in
    All-cons (λ d. d.compression ≡ 0) _ (descriptors_from options rest bs) refl (plain-descriptors_from options rest bs)

-- A pad is shorter than the alignment that it leads to.
gap_below : (n position : ℕ) → 0 < n → gap_to n position < n
gap_below n position h = mod-lt (n - position % n) h

pad_by : (b : Bool) (n : ℕ) → n < 2 ^ 16 → (if b then n else 0) < 2 ^ 16
pad_by true n h = h
pad_by false n h = omega arith

pub pad-below : (options : SerializeOptions) (exponent position : ℕ) → exponent ≤ 16 → pad options exponent position < 2 ^ 16
pad-below options exponent position h =
    let most : 2 ^ exponent ≤ 2 ^ 16 = pow-le-pow_right (omega arith) h in
    pad_by options.include_padding (gap_to (2 ^ exponent) position) (omega (arith, gap_below (2 ^ exponent) position (pow_pos exponent), most))

-- The numbers in descriptors fit their bytes.
pub described-descriptors_from : (options : SerializeOptions) (position : ℕ) (bs : List Buffer) → AreDescribable bs → All IsDescribed (descriptors_from options position bs)
described-descriptors_from options position [] fit = All-nil IsDescribed
described-descriptors_from options position (b ∷ bs) fit =
    let n = pad options b.exponent position in
    let own : IsDescribable b = All-head (λ b. IsDescribable b) b bs fit in
    All-cons IsDescribed (record { padding = n; exponent = b.exponent; compression = 0; len = length b.bytes }) (descriptors_from options (position + n + length b.bytes) bs)
    (record { padding = pad-below options b.exponent position own.exponent; exponent = omega (arith, own.exponent); compression = omega arith; len = omega (arith, own.len) })
    (described-descriptors_from options (position + n + length b.bytes) bs (All-tail (λ b. IsDescribable b) b bs fit))
