-- What the payload of a record word holds. In Executing it is a block, in bits 0 to 16. In Wrapping
-- it is a block and, in bits 17 and 18, the place where its list stopped. In Completed it is a reply:
-- its kind in bits 0 to 2 and a value or the reference of a node in bits 3 to 22.
use Rattle.std.specs.Prelude.{ℕ, ◌+◌, ◌*◌, ◌^◌, ◌==◌, ◌||◌, ◌&&◌, Bool}
use Rattle.word_fields.specs.declared.payloads.TheConstants.{VALUE_OF_NODE, VALUE}
use Rattle.word_fields.specs.Fields.{field_of}

-- the block of Executing and of Wrapping
unfoldable pub payload_block : ℕ → ℕ
payload_block p = field_of 0 17 p

-- the stop of Wrapping
unfoldable pub payload_stop : ℕ → ℕ
payload_stop p = field_of 17 2 p

-- the payload of a block and a stop
unfoldable pub wrapping_payload : ℕ → ℕ → ℕ
wrapping_payload block stop = block + 2 ^ 17 * stop

-- the kind of a reply
unfoldable pub reply_kind : ℕ → ℕ
reply_kind p = field_of 0 3 p

-- its value or reference
unfoldable pub reply_value : ℕ → ℕ
reply_value p = field_of 3 20 p

-- the payload of a kind and a value
unfoldable pub reply_payload : ℕ → ℕ → ℕ
reply_payload kind value = kind + 2 ^ 3 * value

-- whether a reply of this kind has a value or a reference
abbrev pub has_value : ℕ → Bool
has_value kind = kind == VALUE_OF_NODE || kind == VALUE

-- whether a payload is a reply: a value stands only where the kind has one, and bit 23 is 0
unfoldable pub is_reply : ℕ → Bool
is_reply p = (has_value (reply_kind p) || (reply_value p == 0)) && (field_of 23 1 p == 0)
