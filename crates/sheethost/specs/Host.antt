-- What a program that runs a sheet has beside the calls: the stores at the start (document 01, "One sheet, whole"), a store's digest
-- (docs/DECISIONS.md, 29), and a number in four bytes.
use Rattle.std.specs.Prelude.{ℕ, zero, suc, ◌+◌, ◌*◌, ◌%◌, List, [], ◌∷◌, get_or, replicate}

-- "Master store: 4,096 bytes, byte i being i mod 251": `left` bytes from byte i on
abbrev pub master_from : ℕ → ℕ → List ℕ
master_from i zero = []
master_from i (suc left) = (i % 251) ∷ master_from (suc i) left

-- a master store of `size` bytes
abbrev pub master_store : ℕ → List ℕ
master_store size = master_from 0 size

-- "slave store zero"
abbrev pub slave_store : ℕ → List ℕ
slave_store size = replicate size 0

-- "d = 1, and for each byte d = (d * 257 + byte + 1) mod 4,294,967,291": from d on
abbrev pub digest_from : ℕ → List ℕ → ℕ
digest_from d [] = d
digest_from d (byte ∷ bytes) = digest_from ((d * 257 + byte + 1) % 4294967291) bytes

unfoldable pub digest_of : List ℕ → ℕ
digest_of store = digest_from 1 store

-- "in four bytes, lowest first": the length of a sheet among many
abbrev pub four_bytes : List ℕ → ℕ
four_bytes bytes = get_or bytes 0 0 + get_or bytes 1 0 * 256 + (get_or bytes 2 0 + get_or bytes 3 0 * 256) * 65536
