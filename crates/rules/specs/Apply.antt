-- What is written into an instruction (document 01, section 7; RFC 9669; the crate's apply and poison_insn).
-- An instruction is 8 bytes: code, destination (low) and source (high) register, off in 2 bytes, imm in 4.
-- Down to the last definition `xs` are the instructions from the patched one, i, onward: it stands at the front, its successor behind it.
use Rattle.std.specs.Prelude.{ℕ, ◌+◌, ◌*◌, ◌/◌, ◌%◌, ◌^◌, Bool, cond, ◌||◌, List, [], ◌∷◌, ◌++◌, length, get_or, take, drop, set, eqb, ltb, None, Option, Some}
use Rattle.std.proofs.lemmas.List.Edits.{sets}
use Rattle.word_read.specs.Num.{little}
use Rattle.word_read.specs.Put.{put_at}
use Rattle.rules.specs.declared.Refusal.{Refusal}
use Rattle.rules.specs.declared.Refusal.TheVariants.{NoSuccessor, BadInstruction}
use Rattle.rules.specs.declared.Resize.{Resize}
use Rattle.rules.specs.declared.Resize.TheVariants.{Same, OneSided, Unlike, To}
use Rattle.rules.specs.declared.Write.{Write}
use Rattle.rules.specs.declared.Write.TheVariants.{Put, Poison}
use Rattle.rules.specs.Limits.{max_off}
use Rattle.rules.specs.Insn.{LD, LDX, ST, STX, ALU, ALU64, W, H, B, DW, LD_IMM64, CALL}

-- The fields of an instruction

-- Byte 0
unfoldable pub code : List ℕ → ℕ
code xs = get_or xs 0 0

-- The class: bits 0 to 2 of the code
abbrev pub class : ℕ → ℕ
class c = c % 8

-- ALU and ALU64; LDX, ST and STX; LD
abbrev pub is_alu : ℕ → Bool
is_alu c = eqb c ALU || eqb c ALU64

abbrev pub is_memory : ℕ → Bool
is_memory c = eqb c LDX || eqb c ST || eqb c STX

abbrev pub is_wide : ℕ → Bool
is_wide c = eqb c LD

-- The high half of byte 1
unfoldable pub source_register : List ℕ → ℕ
source_register xs = get_or xs 1 0 / 16

-- Another code
unfoldable pub with_code : List ℕ → ℕ → List ℕ
with_code xs c = set xs 0 c

-- Another off, of 16 bits
unfoldable pub with_off : List ℕ → ℕ → List ℕ
with_off xs n = put_at little 2 xs 2 n

-- Another imm, of 32 bits
unfoldable pub with_imm : List ℕ → ℕ → List ℕ
with_imm xs n = put_at little 4 xs 4 n

-- The halves of a value
abbrev pub low : ℕ → ℕ
low n = n % 2 ^ 32

abbrev pub high : ℕ → ℕ
high n = n / 2 ^ 32

-- A call of a helper that does not exist, imm 0xbad2310
unfoldable pub poisoned : List ℕ → List ℕ
poisoned xs = sets xs 0 (CALL ∷ 0 ∷ 0 ∷ 0 ∷ 0x10 ∷ 0x23 ∷ 0xad ∷ 0x0b ∷ [])

-- The patch

-- The instructions afterwards, and why the record is refused, if it is
pub data Patch : Type 0 where
  done : List ℕ → Patch
  stopped : Refusal → List ℕ → Patch

-- There is an instruction i.
abbrev pub has_slot : List ℕ → ℕ → Bool
has_slot xs i = ltb i (length xs / 8)

-- The successor changed too, or refusal 6
unfoldable pub also_next : (List ℕ → List ℕ) → List ℕ → ℕ → Patch
also_next change xs i = cond (has_slot xs 1) (done (take 8 xs ++ change (drop 8 xs))) (stopped (NoSuccessor (i + 1)) xs)

-- No value: poison, of the successor too where the code was 0x18
unfoldable pub poison : List ℕ → ℕ → Patch
poison xs i = cond (eqb (code xs) LD_IMM64) (also_next poisoned (poisoned xs) i) (done (poisoned xs))

-- ALU and ALU64, classes 4 and 7: an immediate operand
unfoldable pub patch_alu : List ℕ → ℕ → Patch
patch_alu xs n = cond (eqb (source_register xs) 0) (done (with_imm xs (low n))) (stopped (BadInstruction 1) xs)

-- The size bits of a load or store
unfoldable pub size_bits : ℕ → Option ℕ
size_bits s = cond (eqb s 1) (Some B) (cond (eqb s 2) (Some H) (cond (eqb s 4) (Some W) (cond (eqb s 8) (Some DW) None)))

-- Other size bits; mode and class stay.
unfoldable pub with_size : List ℕ → ℕ → List ℕ
with_size xs b = with_code xs (code xs / 32 * 32 + b + code xs % 8)

abbrev pub resized : List ℕ → Option ℕ → Patch
resized xs None = stopped (BadInstruction 4) xs
resized xs (Some b) = done (with_size xs b)

-- A load or store whose off is written already, and the size that it gets
unfoldable pub resize : List ℕ → Resize → Patch
resize xs Same = done xs
resize xs OneSided = stopped (BadInstruction 6) xs
resize xs Unlike = stopped (BadInstruction 3) xs
resize xs (To s) = resized xs (size_bits s)

-- LDX, ST and STX, classes 1 to 3: the offset, then the size
unfoldable pub patch_memory : List ℕ → ℕ → Resize → Patch
patch_memory xs n z = cond (ltb max_off n) (stopped (BadInstruction 2) xs) (resize (with_off xs n) z)

-- LD, class 0: 64 bits over two instructions
unfoldable pub patch_wide : List ℕ → ℕ → ℕ → Patch
patch_wide xs i n = also_next (λ next. with_imm next (high n)) (with_imm xs (low n)) i

-- A value, by class
unfoldable pub patch_class : ℕ → List ℕ → ℕ → ℕ → Resize → Patch
patch_class c xs i n z =
    cond (is_alu c) (patch_alu xs n)
    (cond (is_memory c) (patch_memory xs n z)
    (cond (is_wide c) (patch_wide xs i n)
    (stopped (BadInstruction 5) xs)))

-- The instruction at the front
unfoldable pub patch_front : List ℕ → ℕ → Write → Patch
patch_front xs i Poison = poison xs i
patch_front xs i (Put n z) = patch_class (class (code xs)) xs i n z

-- Other bytes before
abbrev pub behind : List ℕ → Patch → Patch
behind front (done xs) = done (front ++ xs)
behind front (stopped r xs) = stopped r (front ++ xs)

-- What is done to instruction i of a function
unfoldable pub patch : List ℕ → ℕ → Write → Patch
patch xs i w = behind (take (8 * i) xs) (patch_front (drop (8 * i) xs) i w)
