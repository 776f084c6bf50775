-- The names of an instruction's parts that the rules speak of (RFC 9669, "instruction classes" and "load and store instructions").
use Rattle.std.specs.Prelude.{ℕ, ◌+◌}

-- Classes: bits 0 to 2 of the code
abbrev pub LD : ℕ
LD = 0

abbrev pub LDX : ℕ
LDX = 1

abbrev pub ST : ℕ
ST = 2

abbrev pub STX : ℕ
STX = 3

abbrev pub ALU : ℕ
ALU = 4

abbrev pub JMP : ℕ
JMP = 5

abbrev pub ALU64 : ℕ
ALU64 = 7

-- Sizes of a load or store: bits 3 and 4 of the code
abbrev pub W : ℕ
W = 0

abbrev pub H : ℕ
H = 0x08

abbrev pub B : ℕ
B = 0x10

abbrev pub DW : ℕ
DW = 0x18

-- A 64-bit immediate over two instructions; a call
abbrev pub LD_IMM64 : ℕ
LD_IMM64 = LD + DW

abbrev pub CALL : ℕ
CALL = JMP + 0x80
