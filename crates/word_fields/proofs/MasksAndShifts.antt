-- Masks and shifts make the fields of a word, and a field that is put changes no other.
use Rattle.std.proofs.Common.{◌≡◌, ℕ, ◌+◌, ◌-◌, ◌*◌, ◌/◌, ◌%◌, ◌^◌, ◌<◌, ◌≤◌, refl, ap, sym, ◌∙◌, arith, inl, inr, add-zero, bit_and, bit_or}
use Rattle.std.proofs.Math.Pow.{mod-mod-pow}
use Rattle.std.proofs.lemmas.Nat.{pow_pos, shr-shr, shr_split, field_of as field-mod, and_comm, and_mask, or_shifted, and_block, or_block, or_comm, and-not, shl_whole, shr_high, mod_low, mod_below}
use Rattle.std.proofs.lemmas.Nat.Bits.{ones_shr}
use Rattle.word_fields.specs.Fields.{field_of, with_field, IsApart}

-- all ones, shifted down to `k` bits
pub ones_of : (k : ℕ) → k ≤ 64 → 18446744073709551615 / 2 ^ (64 - k) + 1 ≡ 2 ^ k
ones_of k h =
    let back : 64 - (64 - k) ≡ k = omega arith in
    let ones = rw back at (ones_shr 64 (64 - k) (omega arith)) in
    omega (arith, ones, pow_pos k)

-- a mask on the shifted word reads the field
pub and_mask_reads : (at width w mask : ℕ) → mask + 1 ≡ 2 ^ width → bit_and (w / 2 ^ at) mask ≡ field_of at width w
unfolding field_of
and_mask_reads at width w mask e =
    let ones : mask ≡ 2 ^ width - 1 = omega arith in
    rw ones (and_mask (w / 2 ^ at) width)

-- the bits of a field by themselves, in their place
and_mask_shifted : (at width w mask : ℕ) → mask + 1 ≡ 2 ^ width → bit_and (mask * 2 ^ at) w ≡ w / 2 ^ at % 2 ^ width * 2 ^ at
and_mask_shifted at width w mask e =
    let ones : mask ≡ 2 ^ width - 1 = omega arith in
    let low : bit_and mask (w / 2 ^ at) ≡ w / 2 ^ at % 2 ^ width =
    and_comm mask (w / 2 ^ at) ∙ (rw ones (and_mask (w / 2 ^ at) width)) in
    let block = and_block at mask (w / 2 ^ at) 0 (w % 2 ^ at) (pow_pos at) (mod_below _ _ (pow_pos at)) in
    let whole = rw (add-zero (mask * 2 ^ at), shr_split w at) at block in
    whole ∙ (rw (low, add-zero) refl)

-- a word without a field: the bits above, and the bits below
and_not_mask : (at width w mask : ℕ) → mask + 1 ≡ 2 ^ width → mask * 2 ^ at < 2 ^ 64 → w < 2 ^ 64 →
    bit_and w (18446744073709551615 - mask * 2 ^ at) ≡ w / 2 ^ (at + width) * 2 ^ width * 2 ^ at + w % 2 ^ at
and_not_mask at width w mask e fits below =
    let rest : bit_and (18446744073709551615 - mask * 2 ^ at) w + bit_and (mask * 2 ^ at) w ≡ w = and-not 64 (mask * 2 ^ at) w fits below in
    let low = and_mask_shifted at width w mask e in
    let swap = and_comm w (18446744073709551615 - mask * 2 ^ at) in
    let high = shr-shr w at width in
    let field = rw high at (shr_split (w / 2 ^ at) width) in
    let shifted = ap (λ x. x * 2 ^ at) field in
    let whole = shr_split w at in
    omega (arith, rest, low, swap, shifted, whole)

-- the field that `put` makes: its bits replaced, all others kept
pub put_bits : (at width w value mask : ℕ) → mask + 1 ≡ 2 ^ width → at + width ≤ 64 → w < 2 ^ 64 → value < 2 ^ width →
    bit_or (bit_and w (18446744073709551615 - mask * 2 ^ at % 18446744073709551616)) (value * 2 ^ at % 18446744073709551616)
    ≡ with_field at width w value
unfolding with_field
put_bits at width w value mask e fits below small =
    let mask_shifted : mask * 2 ^ at % 18446744073709551616 ≡ mask * 2 ^ at = shl_whole mask width at 64 (omega arith) (omega arith) in
    let value_shifted : value * 2 ^ at % 18446744073709551616 ≡ value * 2 ^ at = shl_whole value width at 64 small (omega arith) in
    let mask_fits : mask * 2 ^ at < 2 ^ 64 = omega arith in
    let cleared = and_not_mask at width w mask e mask_fits below in
    let block = or_block at (w / 2 ^ (at + width) * 2 ^ width) value (w % 2 ^ at) 0 (mod_below _ _ (pow_pos at)) (pow_pos at) in
    let high = or_shifted (w / 2 ^ (at + width)) width value small in
    rw (mask_shifted, value_shifted, cleared, ← add-zero (value * 2 ^ at), block, high, or_comm (w % 2 ^ at) 0) refl

-- what was put is read back
pub read_back : (at width w value : ℕ) → value < 2 ^ width → field_of at width (with_field at width w value) ≡ value
unfolding field_of with_field
read_back at width w value small =
    rw (shr_high (w / 2 ^ (at + width) * 2 ^ width + value) at (w % 2 ^ at) (mod_below _ _ (pow_pos at)))
    (mod_low (w / 2 ^ (at + width)) width value small)

-- a field below bit k of a word looks at the bits below k alone
low_field : (k at width w : ℕ) → at + width ≤ k → field_of at width w ≡ w % 2 ^ k / 2 ^ at % 2 ^ width
unfolding field_of
low_field k at width w h =
    let sum : k - (at + width) + (width + at) ≡ k = omega arith in
    let below = rw sum at (mod-mod-pow w (k - (at + width)) (width + at)) in
    sym (field-mod w width at) ∙ ap (λ x. x / 2 ^ at) (sym below) ∙ field-mod (w % 2 ^ k) width at

-- a field from bit k on looks at the bits from k on alone
high_field : (k at width w : ℕ) → k ≤ at → field_of at width w ≡ field_of (at - k) width (w / 2 ^ k)
unfolding field_of
high_field k at width w h =
    let sum : k + (at - k) ≡ at = omega arith in
    ap (λ x. x % 2 ^ width) (sym (rw sum at (shr-shr w k (at - k))))

-- the bits below and above a field that is put
with_field_low : (at width w value : ℕ) → with_field at width w value % 2 ^ at ≡ w % 2 ^ at
unfolding with_field
with_field_low at width w value =
    mod_low (w / 2 ^ (at + width) * 2 ^ width + value) at (w % 2 ^ at) (mod_below _ _ (pow_pos at))

with_field_high : (at width w value : ℕ) → value < 2 ^ width → with_field at width w value / 2 ^ (at + width) ≡ w / 2 ^ (at + width)
unfolding with_field
with_field_high at width w value small =
    let high = w / 2 ^ (at + width) in
    let word = (high * 2 ^ width + value) * 2 ^ at + w % 2 ^ at in
    sym (shr-shr word at width)
    ∙ ap (λ x. x / 2 ^ width) (shr_high (high * 2 ^ width + value) at (w % 2 ^ at) (mod_below _ _ (pow_pos at)))
    ∙ shr_high high width value small

-- a field that has no bit in common with the one that is put stays
pub other_field : (at width w value at' width' : ℕ) → value < 2 ^ width → IsApart at' width' at width →
    field_of at' width' (with_field at width w value) ≡ field_of at' width' w
other_field at width w value at' width' small (inl h) =
    low_field at at' width' (with_field at width w value) h
    ∙ ap (λ x. x / 2 ^ at' % 2 ^ width') (with_field_low at width w value)
    ∙ sym (low_field at at' width' w h)
other_field at width w value at' width' small (inr h) =
    high_field (at + width) at' width' (with_field at width w value) h
    ∙ ap (field_of (at' - (at + width)) width') (with_field_high at width w value small)
    ∙ sym (high_field (at + width) at' width' w h)
