-- Public keys.
use Rattle.std.specs.Prelude.{ℕ, Bool, List, [], bytes_eq, get_or}
use Rattle.ds_label.specs.declared.category.PubKey.{PubKey}

-- equal in all bytes
abbrev pub same_key : PubKey → PubKey → Bool
same_key a b = bytes_eq a.0 b.0

-- no exporter's key: each of those has 56 bytes
abbrev pub no_key : PubKey
no_key = record { 0 = [] }

-- the key of the host with this number, from all hosts' keys
abbrev pub key_of : List PubKey → ℕ → PubKey
key_of keys host = get_or keys host no_key
