-- Which bytes are a name.
use Rattle.std.specs.Prelude.{ℕ, ◌-◌, ◌==◌, nat_le, Bool, ◌&&◌, not, List, ◌++◌, length, replicate, slice_index_or}
use Rattle.std.specs.List.{list_all}
use Rattle.std.specs.Str.{is_utf8}
use Rattle.er_event.specs.declared.names.TheConstants.{MAX_NAME_BYTES}

-- no control character
abbrev pub is_plain_byte : ℕ → Bool
is_plain_byte byte = nat_le 32 byte && not (byte == 127)

-- 1 to 60 bytes of UTF-8 with no control character, and no space at either end
abbrev pub is_lawful_name : List ℕ → Bool
is_lawful_name name =
    nat_le 1 (length name) && nat_le (length name) MAX_NAME_BYTES && is_utf8 name && list_all is_plain_byte name
    && not (slice_index_or name 0 0 == 32) && not (slice_index_or name (length name - 1) 0 == 32)

-- a name with zeros after it, as many as it lacks of 60 bytes
abbrev pub name_with_zeros : List ℕ → List ℕ
name_with_zeros name = name ++ replicate (MAX_NAME_BYTES - length name) 0
