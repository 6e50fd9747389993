-- The text of each design, byte for byte.
use Rattle.std.specs.Prelude.{ℕ, List, codes}

-- The module whose output is its input.
unfoldable pub passthrough_text : List ℕ
passthrough_text = codes "module passthrough(\n  input wire [7:0] input_data,\n  output wire [7:0] output_data\n);\n  assign output_data = input_data;\nendmodule\n"

-- The module of an encoder, a function over a `unique casez`.
unfoldable pub cases_text : List ℕ
cases_text = codes "module encoder(\n  input wire [3:0] s,\n  output wire [1:0] y\n);\n  function automatic logic [1:0] f (input reg [3:0] s);\n    unique casez (s)\n      4'b1???: f = 2;\n      default: begin\n        // none\n        f = 0;\n      end\n    endcase\n  endfunction\n  assign y = f(s);\nendmodule\n"

-- The module of two registers with a reset.
unfoldable pub registers_text : List ℕ
registers_text = codes "module regs_rst_en(\n  input wire clk,\n  input wire rst,\n  input wire en\n);\n  logic [7:0] r;\n  logic [7:0] r_next;\n  logic [7:0] r2;\n  logic [7:0] r2_next;\n  always_ff @ (posedge clk) begin\n    if (!rst) begin\n      r <= 8'haa;\n      r2 <= 8'h55;\n    end else begin\n      r <= en ? r_next : r;\n      r2 <= r2_next;\n    end\n  end\nendmodule\n"
