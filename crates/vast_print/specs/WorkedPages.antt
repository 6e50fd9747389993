-- Worked declarations, members and files, proved in the law `worked_texts`.
use Rattle.std.specs.Prelude.{◌≡◌, ℕ, pos, Bool, true, false, List, [], ◌∷◌, Some, None, codes}
use Rattle.vast_literal.specs.Tree.{LiteralTree, StringTree, BinaryTree, CallTree}
use Rattle.vast_literal.specs.declared.kind.VastFileType.TheVariants.{Verilog as VerilogDialect, SystemVerilog as SystemVerilogDialect}
use Rattle.vast_literal.specs.declared.operator.BinaryOperator.TheVariants.{LogicalOr as LogicalOrOp}
use Rattle.vast_literal.specs.Tree.{TypeTree, ScalarTree, VectorTree, PackedTree, UnpackedTree}
use Rattle.vast_literal.specs.declared.kind.DataKind.TheVariants.{Wire as WireKind, Reg as RegKind, Logic as LogicKind}
use Rattle.vast_literal.specs.Tree.{AssignTree, TaskTree, CommentTree, ConditionalTree, CaseTree, ForTree, Statements, NoStatements, MoreStatements, ElseIf, Else, NoCaseArms, CaseArm, NoExpr, SomeExpr}
use Rattle.vast_literal.specs.declared.kind.AssignmentForm.TheVariants.{Blocking}
use Rattle.vast_literal.specs.declared.kind.CaseKind.TheVariants.{CaseZ}
use Rattle.vast_literal.specs.Tree.{DeclarationMember, BlankMember, ImportMember, EnumTree, StructTree, TypedefMember, InstanceMember, AlwaysMember, FunctionMember, LoopMember, NoExprs, MoreExprs, Members, NoMembers, MoreMembers, PortTree, ModuleItem, IncludeItem, ImportItem, TypedefItem, BlankItem, CommentItem, FileTree}
use Rattle.vast_literal.specs.declared.kind.AlwaysKind.TheVariants.{AlwaysComb as AlwaysCombWord, Initial as InitialWord}
use Rattle.vast_literal.specs.declared.kind.ModulePortDirection.TheVariants.{Input as InputDirection}
use Rattle.vast_literal.specs.WorkedTexts.{passthrough_file}
use Rattle.vast_core.specs.Growth.{counts}
use Rattle.vast_print.specs.Printed.{plain_text}
use Rattle.vast_print.specs.Declaration.{declaration_text}
use Rattle.vast_print.specs.Page.{print}
use Rattle.vast_print.specs.Members.{member_page}
use Rattle.vast_print.specs.Layout.{layout}
use Rattle.vast_print.specs.Derived.{FilePrintsPlainly}
use Rattle.vast_print.specs.WorkedTexts.{name, number}

abbrev pub bits : ℕ → Bool → List ℕ → TypeTree
bits n signed w = VectorTree (LiteralTree w (Some (pos n))) (Some (pos n)) signed

abbrev pub scalar_port : List ℕ → PortTree
scalar_port n = record { direction = InputDirection; declaration = record { kind = WireKind; type = ScalarTree false; name = n } }

abbrev pub module_file : List ℕ → List PortTree → Members → FileTree
module_file n ports members = record { dialect = SystemVerilogDialect; items = ModuleItem (record { name = n; parameters = []; ports = ports; members = members }) ∷ [] }

abbrev pub assigned : List ℕ → List ℕ → Statements
assigned l r = MoreStatements (AssignTree Blocking (name l) (name r)) NoStatements

-- What some declarations, members and files are printed as.
pub record WorkedPages : Type 0 where
  -- Packed dimensions stand before the base's own bits, outermost first.
  pub packed_declaration :
      declaration_text SystemVerilogDialect WireKind (PackedTree (bits 8 true (codes "8")) (counts (pos 2 ∷ pos 3 ∷ []))) (codes "p") ≡ plain_text (codes "wire signed [1:0][2:0][7:0] p")
  -- In Verilog an array of four has the range from 0 to 3.
  pub verilog_array :
      declaration_text VerilogDialect RegKind (UnpackedTree (bits 8 false (codes "8")) (counts (pos 4 ∷ []))) (codes "m") ≡ plain_text (codes "reg [7:0] m[0:3]")
  -- A dimension is an expression too, written as a vector's width is, and in SystemVerilog as it stands after a name.
  pub packed_by_expression :
      declaration_text SystemVerilogDialect LogicKind (PackedTree (bits 8 false (codes "8")) (MoreExprs (name (codes "N")) (counts (pos 3 ∷ [])))) (codes "p") ≡ plain_text (codes "logic [N - 1:0][2:0][7:0] p")
  pub verilog_memory :
      declaration_text VerilogDialect RegKind (UnpackedTree (VectorTree (name (codes "W")) None false) (MoreExprs (name (codes "DEPTH")) NoExprs)) (codes "mem") ≡ plain_text (codes "reg [W - 1:0] mem[0:DEPTH - 1]")
  pub memory :
      declaration_text SystemVerilogDialect LogicKind (UnpackedTree (VectorTree (name (codes "W")) None false) (MoreExprs (name (codes "DEPTH")) NoExprs)) (codes "mem") ≡ plain_text (codes "logic [W - 1:0] mem[DEPTH]")
  pub grouped_dimension :
      declaration_text VerilogDialect RegKind (UnpackedTree (ScalarTree false) (MoreExprs (BinaryTree LogicalOrOp (name (codes "a")) (name (codes "b"))) NoExprs)) (codes "m") ≡ plain_text (codes "reg m[0:(a || b) - 1]")
  -- A width without a value is written less one, in parentheses where its operator is weaker.
  pub symbolic_highest_index :
      declaration_text SystemVerilogDialect WireKind (VectorTree (BinaryTree LogicalOrOp (name (codes "a")) (name (codes "b"))) None false) (codes "v") ≡ plain_text (codes "wire [(a || b) - 1:0] v")
  -- The name part of a declaration always stands.
  pub nameless : declaration_text SystemVerilogDialect WireKind (ScalarTree false) [] ≡ plain_text (codes "wire ")
  -- A file without items has no text.
  pub no_items : print (layout (record { dialect = SystemVerilogDialect; items = [] })) ≡ []
  -- A module without members has one blank line, as one with a blank line has.
  pub empty_module : print (layout (module_file (codes "m") [] NoMembers)) ≡ codes "module m;\n\nendmodule\n"
  pub blank_member : print (layout (module_file (codes "m") [] (MoreMembers BlankMember NoMembers))) ≡ codes "module m;\n\nendmodule\n"
  -- The import of a package is a line among the members.
  pub import_of_package : print (member_page SystemVerilogDialect (ImportMember (codes "p"))) ≡ codes "import p::*;\n"
  -- A type that is declared by name: an enumeration, of whose entries one has a value and one counts on, and a packed structure.
  pub enumeration :
      print (member_page SystemVerilogDialect (TypedefMember (EnumTree (bits 2 false (codes "2")) (codes "state_t")
      (record { name = codes "IDLE"; value = SomeExpr (number (codes "2'd0") (pos 0)) } ∷ record { name = codes "BUSY"; value = NoExpr } ∷ []))))
      ≡ codes "typedef enum logic [1:0] {\n  IDLE = 2'd0,\n  BUSY\n} state_t;\n"
  pub structure :
      print (layout (record {
        dialect = SystemVerilogDialect;
        items = TypedefItem (StructTree (codes "word_t")
            (record { kind = LogicKind; type = ScalarTree false; name = codes "valid" } ∷ record { kind = LogicKind; type = bits 8 false (codes "8"); name = codes "data" } ∷ [])) ∷ [];
      }))
      ≡ codes "typedef struct packed {\n  logic valid;\n  logic [7:0] data;\n} word_t;\n"
  -- Items stand on lines of their own; a comment has its mark before each of its lines.
  pub file_items :
      print (layout (record { dialect = SystemVerilogDialect; items = IncludeItem (codes "defs.svh") ∷ ImportItem (codes "p") ∷ BlankItem ∷ CommentItem (codes "one\n\ntwo") ∷ [] }))
      ≡ codes "`include \"defs.svh\"\nimport p::*;\n\n// one\n//\n// two\n"
  -- The module of the README, which is plain and well formed and which nothing refuses.
  pub passthrough : print (layout passthrough_file) ≡ codes "module passthrough(\n  input wire [7:0] input_data,\n  output wire [7:0] output_data\n);\n  assign output_data = input_data;\nendmodule\n"
  pub passthrough_prints_plainly : FilePrintsPlainly passthrough_file
  -- A line break inside a name goes on at the depth of the construct.
  pub broken_names :
      print (layout (module_file (codes "a\nb") (scalar_port (codes "x\ny") ∷ []) (MoreMembers (DeclarationMember (record { kind = WireKind; type = ScalarTree false; name = codes "p\nq" })) NoMembers)))
      ≡ codes "module a\nb(\n  input wire x\ny\n);\n  wire p\n  q;\nendmodule\n"
  -- An instance without connections has one blank line, one with them a line for each.
  pub unconnected : print (member_page SystemVerilogDialect (InstanceMember (record { module_name = codes "sub"; instance_name = codes "u0"; parameters = []; connections = [] }))) ≡ codes "sub u0 (\n\n);\n"
  pub connected :
      print (member_page SystemVerilogDialect (InstanceMember (record {
        module_name = codes "sub";
        instance_name = codes "u0";
        parameters = record { name = codes "W"; value = SomeExpr (number (codes "8") (pos 8)) } ∷ [];
        connections = record { name = codes "a"; value = SomeExpr (name (codes "x")) } ∷ record { name = codes "b"; value = NoExpr } ∷ [];
      })))
      ≡ codes "sub #(\n  .W(8)\n) u0 (\n  .a(x),\n  .b()\n);\n"
  -- A loop's end is the right child of a comparison.
  pub loop :
      print (member_page VerilogDialect (LoopMember (codes "i") (number (codes "0") (pos 0)) (BinaryTree LogicalOrOp (name (codes "a")) (name (codes "b"))) None NoMembers))
      ≡ codes "for (genvar i = 0; i < (a || b); i = i + 1) begin\nend\n"
  -- An empty block stands on the line of its condition.
  pub conditional :
      print (member_page SystemVerilogDialect (AlwaysMember AlwaysCombWord NoExprs (MoreStatements
      (ConditionalTree (name (codes "a")) (assigned (codes "x") (codes "1")) (ElseIf (name (codes "b")) NoStatements (Else (assigned (codes "x") (codes "0"))))) NoStatements)))
      ≡ codes "always_comb begin\n  if (a) begin\n    x = 1;\n  end else if (b) begin end else begin\n    x = 0;\n  end\nend\n"
  -- A call as a statement has no parentheses where it has no arguments, and keeps an arm's `begin` and `end`.
  pub tasks :
      print (member_page SystemVerilogDialect (AlwaysMember InitialWord NoExprs (MoreStatements
      (CaseTree false CaseZ (name (codes "s")) (CaseArm NoExpr (MoreStatements (TaskTree (CallTree (codes "$display") (MoreExprs (StringTree (codes "\"s\"")) (MoreExprs (name (codes "s")) NoExprs)))) NoStatements) NoCaseArms))
      (MoreStatements (TaskTree (CallTree (codes "$finish") NoExprs)) NoStatements))))
      ≡ codes "initial begin\n  casez (s)\n    default: begin\n      $display(\"s\", s);\n    end\n  endcase\n  $finish;\nend\n"
  -- A loop of a block has the head of a generate loop, with `int`.
  pub counted :
      print (member_page VerilogDialect (AlwaysMember InitialWord NoExprs (MoreStatements
      (ForTree (codes "i") (number (codes "0") (pos 0)) (name (codes "n")) (assigned (codes "x") (codes "1"))) (MoreStatements
      (ForTree (codes "j") (number (codes "1") (pos 1)) (BinaryTree LogicalOrOp (name (codes "a")) (name (codes "b"))) NoStatements) NoStatements))))
      ≡ codes "initial begin\n  for (int i = 0; i < n; i = i + 1) begin\n    x = 1;\n  end\n  for (int j = 1; j < (a || b); j = j + 1) begin end\nend\n"
  -- A function whose body is one casez has it bare, and its arms are bare where they are one assignment.
  pub casez_function :
      print (member_page SystemVerilogDialect (FunctionMember (record {
        name = codes "f";
        result = bits 2 false (codes "2");
        inputs = record { kind = RegKind; type = bits 4 false (codes "4"); name = codes "s" } ∷ [];
        locals = [];
        body = MoreStatements (CaseTree true CaseZ (name (codes "s"))
            (CaseArm (SomeExpr (LiteralTree (codes "4'b1???") None)) (assigned (codes "f") (codes "2"))
            (CaseArm NoExpr (MoreStatements (CommentTree (codes "none")) (assigned (codes "f") (codes "0"))) NoCaseArms))) NoStatements;
      })))
      ≡ codes "function automatic logic [1:0] f (input reg [3:0] s);\n  unique casez (s)\n    4'b1???: f = 2;\n    default: begin\n      // none\n      f = 0;\n    end\n  endcase\nendfunction\n"
