-- What a patch, a record and a call leave as it was (document 01, the last sentence of section 3, and section 7).
-- Assumes nothing.
use Rattle.std.specs.Prelude.{ℕ, ◌+◌, ◌*◌, ◌≡◌, Bool, false, cond, ◌&&◌, ◌||◌, List, ◌⊎◌, eqb, length, get_or, take, drop, None, Option, Some}
use Rattle.btf_view.specs.View.{View}
use Rattle.rules.specs.declared.Record.{Record}
use Rattle.rules.specs.declared.Answer.TheVariants.{Refused}
use Rattle.rules.specs.declared.Ending.TheVariants.{Stopped, Misshapen}
use Rattle.rules.specs.declared.Refusal.{Refusal}
use Rattle.rules.specs.declared.Refusal.TheVariants.{NoSuccessor, BadInstruction}
use Rattle.rules.specs.declared.Write.{Write}
use Rattle.rules.specs.declared.Write.TheVariants.{Put, Poison}
use Rattle.rules.specs.Refusal.{number, returned}
use Rattle.rules.specs.Record.{record_of}
use Rattle.rules.specs.List.{list_of}
use Rattle.rules.specs.Call.{Effect, records_in}
use Rattle.rules.specs.Apply.{Patch, done, stopped, code, class, is_wide, patch_front, patch}

-- The instructions afterwards, and why the patch stopped
abbrev pub bytes_of : Patch → List ℕ
bytes_of (done xs) = xs
bytes_of (stopped r xs) = xs

abbrev pub refusal_of : Patch → Option Refusal
refusal_of (done xs) = None
refusal_of (stopped r xs) = Some r

-- The refusals that may leave other bytes: 6, and 12 with reason 3, 4 or 6
abbrev pub Partial : ℕ → Refusal → Type 0
Partial i r = (r ≡ NoSuccessor (i + 1)) ⊎ ((r ≡ BadInstruction 3) ⊎ ((r ≡ BadInstruction 4) ⊎ (r ≡ BadInstruction 6)))

-- Poison takes the successor where the code is 0x18, a value where the class is LD.
abbrev pub takes_next : ℕ → Write → Bool
takes_next c Poison = eqb c 0x18
takes_next c (Put n z) = is_wide (class c)

-- How many bytes a patch reads and writes, by the code: two instructions or one
unfoldable pub patch_width : ℕ → Write → ℕ
patch_width c w = cond (takes_next c w) 16 8

-- The same patch of fewer bytes, or of more
abbrev pub mapped : (List ℕ → List ℕ) → Patch → Patch
mapped f (done xs) = done (f xs)
mapped f (stopped r xs) = stopped r (f xs)

-- The bytes of instruction i that a patch reads and writes
abbrev pub patch_width_at : List ℕ → ℕ → Write → ℕ
patch_width_at xs i w = patch_width (code (drop (8 * i) xs)) w

-- What holds of every patch
pub record Keeps (xs : List ℕ) (i : ℕ) (w : Write) : Type 0 where
  -- the length, and all bytes before and behind those in reach
  pub long : length (bytes_of (patch xs i w)) ≡ length xs
  pub before : take (8 * i) (bytes_of (patch xs i w)) ≡ take (8 * i) xs
  pub rest : drop (8 * i + patch_width_at xs i w) (bytes_of (patch xs i w)) ≡ drop (8 * i + patch_width_at xs i w) xs
  -- those in reach alone decide what becomes of them
  pub within : mapped (λ ys. take (patch_width_at xs i w) (drop (8 * i) ys)) (patch xs i w) ≡ patch_front (take (patch_width_at xs i w) (drop (8 * i) xs)) i w
  -- a refusal leaves every byte, but for the partial ones
  pub refused : {r : Refusal} {ys : List ℕ} → patch xs i w ≡ stopped r ys → (ys ≡ xs) ⊎ Partial i r

-- The last sentence of section 3: the refusals that may leave other bytes, by their numbers, and for 12 by the reason that it returns
unfoldable pub is_partial : Refusal → Bool
is_partial q =
    let reason = get_or (returned 0 q) 0 0 in
    eqb (number q) 6 || (eqb (number q) 12 && (eqb reason 3 || (eqb reason 4 || eqb reason 6)))

-- A record that is refused otherwise leaves every instruction byte as it was.
abbrev pub RecordKeeps : View → View → ℕ → List ℕ → Record → Type 0
RecordKeeps L T section xs r =
    (q : Refusal) → (record_of L T section xs r).answer ≡ Refused q → is_partial q ≡ false → (record_of L T section xs r).insns ≡ xs

-- A call that ends at record k leaves what the k records before it left; one that ends before its first record leaves every byte.
pub record CallKeeps (L T : View) (section : ℕ) (xs rs : List ℕ) (call : Effect) : Type 0 where
  pub stopped : (k : ℕ) (q : Refusal) → call.said.ending ≡ Stopped k q → is_partial q ≡ false → call.insns ≡ (list_of L T section xs (take k (records_in rs))).insns
  pub misshapen : call.said.ending ≡ Misshapen → call.insns ≡ xs
