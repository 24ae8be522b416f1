-- How keys are hashed: each number that is written is one coefficient more of a polynomial, and the numbers of a key are its name, its
-- context, the two halves of its space and, as the last one, its time. Only how long a look takes depends on it.
use Rattle.std.specs.Prelude.{ℕ, ◌+◌, ◌*◌, ◌/◌, ◌%◌, ◌^◌, List, length, if◌then◌else◌, nat_eq, bit_xor}
use Rattle.std.specs.Int.{from_le_bytes, w32, w64}
use Rattle.lucid_tags.specs.declared.hashing.KeyHasher.{KeyHasher}

abbrev pub added : KeyHasher → ℕ → KeyHasher
added h number = record { state = ((h.state * 0xf135_7aea_2e62_a9c5) % 2 ^ 64 + number) % 2 ^ 64 }

-- the state after some bytes: four and eight are a number, the lowest byte first; of others the length counts, as keys write none
abbrev pub write : KeyHasher → List ℕ → KeyHasher
write h bytes =
    if nat_eq (length bytes) 4 then added h (from_le_bytes w32 bytes)
    else (if nat_eq (length bytes) 8 then added h (from_le_bytes w64 bytes) else added h (length bytes))

-- what is left of the state: four that follow one another, from a multiple of four on, differ in the tag alone
abbrev pub finish : KeyHasher → ℕ
finish h =
    let spread = (h.state / 4 * 0x9e37_79b9_7f4a_7c15) % 2 ^ 64 in
    spread / 2 ^ 40 + (bit_xor (spread / 2 ^ 32) h.state % 256) * 2 ^ 24
