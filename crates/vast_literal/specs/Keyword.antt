-- The keywords of SystemVerilog (IEEE Std 1800, with those of its older and newer editions), and the test.
use Rattle.std.specs.Prelude.{ℕ, List, [], ◌∷◌, Bool, false, ◌||◌, codes}
use Rattle.std.specs.Str.{bytes_eq}

-- The keywords, in the order of their bytes.
unfoldable pub keywords : List (List ℕ)
keywords =
    codes "accept_on" ∷ codes "alias" ∷ codes "always" ∷ codes "always_comb" ∷ codes "always_ff" ∷
    codes "always_latch" ∷ codes "and" ∷ codes "assert" ∷ codes "assign" ∷ codes "assume" ∷ codes "automatic" ∷
    codes "before" ∷ codes "begin" ∷ codes "bind" ∷ codes "bins" ∷ codes "binsof" ∷ codes "bit" ∷ codes "break" ∷
    codes "buf" ∷ codes "bufif0" ∷ codes "bufif1" ∷ codes "byte" ∷ codes "case" ∷ codes "casex" ∷ codes "casez" ∷
    codes "cell" ∷ codes "chandle" ∷ codes "checker" ∷ codes "class" ∷ codes "clocking" ∷ codes "cmos" ∷
    codes "config" ∷ codes "const" ∷ codes "constraint" ∷ codes "context" ∷ codes "continue" ∷ codes "cover" ∷
    codes "covergroup" ∷ codes "coverpoint" ∷ codes "cross" ∷ codes "deassign" ∷ codes "default" ∷ codes "defparam" ∷
    codes "design" ∷ codes "disable" ∷ codes "dist" ∷ codes "do" ∷ codes "edge" ∷ codes "else" ∷ codes "end" ∷
    codes "endcase" ∷ codes "endchecker" ∷ codes "endclass" ∷ codes "endclocking" ∷ codes "endconfig" ∷
    codes "endfunction" ∷ codes "endgenerate" ∷ codes "endgroup" ∷ codes "endinterface" ∷ codes "endmodule" ∷
    codes "endpackage" ∷ codes "endprimitive" ∷ codes "endprogram" ∷ codes "endproperty" ∷ codes "endsequence" ∷
    codes "endspecify" ∷ codes "endtable" ∷ codes "endtask" ∷ codes "enum" ∷ codes "event" ∷ codes "eventually" ∷
    codes "expect" ∷ codes "export" ∷ codes "extends" ∷ codes "extern" ∷ codes "final" ∷ codes "first_match" ∷
    codes "for" ∷ codes "force" ∷ codes "foreach" ∷ codes "forever" ∷ codes "fork" ∷ codes "forkjoin" ∷
    codes "function" ∷ codes "generate" ∷ codes "genvar" ∷ codes "global" ∷ codes "highz0" ∷ codes "highz1" ∷
    codes "if" ∷ codes "iff" ∷ codes "ifnone" ∷ codes "ignore_bins" ∷ codes "illegal_bins" ∷ codes "implements" ∷
    codes "implies" ∷ codes "import" ∷ codes "incdir" ∷ codes "include" ∷ codes "initial" ∷ codes "inout" ∷
    codes "input" ∷ codes "inside" ∷ codes "instance" ∷ codes "int" ∷ codes "integer" ∷ codes "interconnect" ∷
    codes "interface" ∷ codes "intersect" ∷ codes "join" ∷ codes "join_any" ∷ codes "join_none" ∷ codes "large" ∷
    codes "let" ∷ codes "liblist" ∷ codes "library" ∷ codes "local" ∷ codes "localparam" ∷ codes "logic" ∷
    codes "longint" ∷ codes "macromodule" ∷ codes "matches" ∷ codes "medium" ∷ codes "modport" ∷ codes "module" ∷
    codes "nand" ∷ codes "negedge" ∷ codes "nettype" ∷ codes "new" ∷ codes "nexttime" ∷ codes "nmos" ∷ codes "nor" ∷
    codes "noshowcancelled" ∷ codes "not" ∷ codes "notif0" ∷ codes "notif1" ∷ codes "null" ∷ codes "or" ∷
    codes "output" ∷ codes "package" ∷ codes "packed" ∷ codes "parameter" ∷ codes "pmos" ∷ codes "posedge" ∷
    codes "primitive" ∷ codes "priority" ∷ codes "program" ∷ codes "property" ∷ codes "protected" ∷ codes "pull0" ∷
    codes "pull1" ∷ codes "pulldown" ∷ codes "pullup" ∷ codes "pulsestyle_ondetect" ∷ codes "pulsestyle_onevent" ∷
    codes "pure" ∷ codes "rand" ∷ codes "randc" ∷ codes "randcase" ∷ codes "randsequence" ∷ codes "rcmos" ∷
    codes "real" ∷ codes "realtime" ∷ codes "ref" ∷ codes "reg" ∷ codes "reject_on" ∷ codes "release" ∷
    codes "repeat" ∷ codes "restrict" ∷ codes "return" ∷ codes "rnmos" ∷ codes "rpmos" ∷ codes "rtran" ∷
    codes "rtranif0" ∷ codes "rtranif1" ∷ codes "s_always" ∷ codes "s_eventually" ∷ codes "s_nexttime" ∷
    codes "s_until" ∷ codes "s_until_with" ∷ codes "scalared" ∷ codes "sequence" ∷ codes "shortint" ∷
    codes "shortreal" ∷ codes "showcancelled" ∷ codes "signed" ∷ codes "small" ∷ codes "soft" ∷ codes "solve" ∷
    codes "specify" ∷ codes "specparam" ∷ codes "static" ∷ codes "string" ∷ codes "strong" ∷ codes "strong0" ∷
    codes "strong1" ∷ codes "struct" ∷ codes "super" ∷ codes "supply0" ∷ codes "supply1" ∷ codes "sync_accept_on" ∷
    codes "sync_reject_on" ∷ codes "table" ∷ codes "tagged" ∷ codes "task" ∷ codes "this" ∷ codes "throughout" ∷
    codes "time" ∷ codes "timeprecision" ∷ codes "timeunit" ∷ codes "tran" ∷ codes "tranif0" ∷ codes "tranif1" ∷
    codes "tri" ∷ codes "tri0" ∷ codes "tri1" ∷ codes "triand" ∷ codes "trior" ∷ codes "trireg" ∷ codes "type" ∷
    codes "typedef" ∷ codes "union" ∷ codes "unique" ∷ codes "unique0" ∷ codes "unsigned" ∷ codes "until" ∷
    codes "until_with" ∷ codes "untyped" ∷ codes "use" ∷ codes "uwire" ∷ codes "var" ∷ codes "vectored" ∷
    codes "virtual" ∷ codes "void" ∷ codes "wait" ∷ codes "wait_order" ∷ codes "wand" ∷ codes "weak" ∷ codes "weak0" ∷
    codes "weak1" ∷ codes "while" ∷ codes "wildcard" ∷ codes "wire" ∷ codes "with" ∷ codes "within" ∷ codes "wor" ∷
    codes "xnor" ∷ codes "xor" ∷ []

-- Whether one of the texts is `word`.
abbrev pub is_among : List (List ℕ) → List ℕ → Bool
is_among [] word = false
is_among (text ∷ texts) word = bytes_eq text word || is_among texts word

-- Whether a word is a keyword: it is on the list.
unfoldable pub is_keyword : List ℕ → Bool
unfolding keywords
is_keyword word = is_among keywords word
