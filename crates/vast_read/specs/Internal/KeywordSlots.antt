-- Where a word is looked for among the keywords: its slot, by its length and four of its bytes.
use Rattle.std.specs.Prelude.{ℕ, ◌+◌, ◌-◌, ◌*◌, ◌/◌, ◌%◌, List, length, get_or}

-- `moves` are what moves those apart that would share a slot.
abbrev pub slot_of : (moves word : List ℕ) → ℕ
slot_of moves word =
    let first = get_or word 0 10 in
    let second = get_or word 1 10 in
    let middle = get_or word (length word / 2) 10 in
    let last = get_or word (length word - 1) 10 in
    let size = length word % 32 in
    (8 * first + 9 * second + 32 * middle + 5 * last + 8 * size + get_or moves ((8 * first + 4 * second + 8 * last + 9 * size) % 32) 0) % 512
