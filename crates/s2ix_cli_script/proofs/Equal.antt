-- What is equal is one: instructions, by their parts.
use Rattle.std.proofs.Common.{◌≡◌, true, List, nat_eq, ap, ap₂, subst, arith}
use Rattle.std.specs.Bool.{Decides}
use Rattle.std.proofs.lemmas.Bool.Decides.{nat_tests}
use Rattle.s2id_core.proofs.Cells.{cells_decided}
use Rattle.s2id_core.specs.CellId.{raw_of}
use Rattle.s2id_core.specs.declared.cell_id.CellId.{CellId}
use Rattle.s2id_union.specs.contracts.same.CellUnionPartialEq.TheImpl.{eq-value as union_test}
use Rattle.s2ix_bag_pairs.specs.Label.{value_of}
use Rattle.s2ix_bag_pairs.specs.declared.label.Label.{Label}
use Rattle.s2ix_bag_pairs.proofs.Pairs.{same_label}
use Rattle.s2ix_edit_plan.specs.declared.edit.Edit.{Edit}
use Rattle.s2ix_edit_plan.specs.contracts.edit.EditPartialEq.TheImpl.{eq-value as edit_test}
use Rattle.s2ix_cli_script.specs.declared.instruction.Instruction.{Instruction}
use Rattle.s2ix_cli_script.specs.declared.instruction.Instruction.TheVariants.{Edit as Edits, Meet, Labels, Common, Only}
use Rattle.s2ix_cli_script.specs.contracts.instruction.InstructionPartialEq.TheImpl.{eq-value as instruction_test}
use Rattle.s2ix_cli_script.specs.contracts.instruction.InstructionEq.TheImpl.Laws as of_instructions

abbrev EditsDecided : Type 0
EditsDecided = (a b : Edit) → Decides (edit_test.it a b) (a ≡ b)

abbrev UnionsDecided : Type 0
UnionsDecided = (xs ys : List CellId) → Decides (union_test.it xs ys) (xs ≡ ys)

-- ---- instructions

equal_cells : (c d : CellId) → nat_eq (raw_of c) (raw_of d) ≡ true → c ≡ d
equal_cells c d = (cells_decided c d).0

equal_labels : (l m : Label) → nat_eq (value_of l) (value_of m) ≡ true → l ≡ m
equal_labels l m e = same_label l m (grind (arith, nat_tests))

-- those of one cell or one label, and of none, are all in the last line
one_instruction : EditsDecided → UnionsDecided → (a b : Instruction) → instruction_test.it a b ≡ true → a ≡ b
one_instruction edits unions (Edits a) (Edits b) h = ap (λ (e : Edit). Edits e) ((edits a b).0 h)
one_instruction edits unions a (Edits b) h = cc
one_instruction edits unions (Meet cs) (Meet ds) h = ap (λ (cells : List CellId). Meet cells) ((unions cs ds).0 h)
one_instruction edits unions (Labels cs) (Labels ds) h = ap (λ (cells : List CellId). Labels cells) ((unions cs ds).0 h)
one_instruction edits unions (Common l m) (Common k n) h =
    ap₂ (λ (x y : Label). Common x y) (same_label l k (grind (arith, nat_tests))) (same_label m n (grind (arith, nat_tests)))
one_instruction edits unions (Only l m) (Only k n) h =
    ap₂ (λ (x y : Label). Only x y) (same_label l k (grind (arith, nat_tests))) (same_label m n (grind (arith, nat_tests)))
one_instruction edits unions a b h = first_of (cc, search (equal_cells, equal_labels))

-- `==` decides whether two instructions are one, as that of edits and that of unions do
pub instructions_decided : EditsDecided → UnionsDecided → (a b : Instruction) → Decides (instruction_test.it a b) (a ≡ b)
instructions_decided edits unions a b = (
  one_instruction edits unions a b,
  λ e. subst (λ (x : Instruction). instruction_test.it a x ≡ true) e (of_instructions.laws-law.refl a),
)
