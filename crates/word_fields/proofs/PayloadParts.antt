-- The parts of a payload, for proofs that leave its layout closed.
use Rattle.std.proofs.Common.{◌≡◌, ℕ, ◌^◌, ◌<◌, true, arith}
use Rattle.std.specs.Prelude.{◌==◌, ◌||◌}
use Rattle.std.proofs.lemmas.Bool.{and_from, eq-eqb}
use Rattle.word_fields.specs.Fields.{field_of}
use Rattle.word_fields.specs.Payloads.{payload_block, payload_stop, wrapping_payload, reply_kind, reply_value, reply_payload, has_value, is_reply}

pub block-payload : (block : ℕ) → block < 2 ^ 17 → payload_block block ≡ block
unfolding payload_block field_of
block-payload block b = omega arith

pub block-wrapping : (block stop : ℕ) → block < 2 ^ 17 → payload_block (wrapping_payload block stop) ≡ block
unfolding payload_block wrapping_payload field_of
block-wrapping block stop b = omega arith

pub stop-wrapping : (block stop : ℕ) → block < 2 ^ 17 → stop < 4 → payload_stop (wrapping_payload block stop) ≡ stop
unfolding payload_stop wrapping_payload field_of
stop-wrapping block stop b s = omega arith

pub wrapping_below : (block stop : ℕ) → block < 2 ^ 17 → stop < 4 → wrapping_payload block stop < 2 ^ 19
unfolding wrapping_payload
wrapping_below block stop b s = omega arith

pub kind-reply : (kind value : ℕ) → kind < 8 → reply_kind (reply_payload kind value) ≡ kind
unfolding reply_kind reply_payload field_of
kind-reply kind value k = omega arith

pub value-reply : (kind value : ℕ) → kind < 8 → value < 2 ^ 20 → reply_value (reply_payload kind value) ≡ value
unfolding reply_value reply_payload field_of
value-reply kind value k v = omega arith

pub reply_below : (kind value : ℕ) → kind < 8 → value < 2 ^ 20 → reply_payload kind value < 2 ^ 23
unfolding reply_payload
reply_below kind value k v = omega arith

no_top : (kind value : ℕ) → reply_payload kind value < 2 ^ 23 → field_of 23 1 (reply_payload kind value) ≡ 0
unfolding field_of
no_top kind value below = omega arith

-- a kind below 8 and a value below 2^20 make a reply, where the value is 0 or the kind has one
pub is_reply-payload : (kind value : ℕ) → kind < 8 → value < 2 ^ 20 → (has_value kind || (value == 0)) ≡ true → is_reply (reply_payload kind value) ≡ true
unfolding is_reply
is_reply-payload kind value k v h =
    let kind_is = kind-reply kind value k in
    let value_is = value-reply kind value k v in
    and_from (has_value (reply_kind (reply_payload kind value)) || (reply_value (reply_payload kind value) == 0)) (field_of 23 1 (reply_payload kind value) == 0)
    (rw (kind_is, value_is) h)
    (eq-eqb _ _ (no_top kind value (reply_below kind value k v)))

-- the equations above, for `grind` and `simp`
pub ruleset payloads = (block-payload, block-wrapping, stop-wrapping, kind-reply, value-reply)
