-- "Image: place, 4 bytes; general then branch registers by cluster, each value 4, waiting 4, busy 1, landing 1." By order 1 "its image grows
-- by 4 bytes at the end", the link register.
-- All 256 general registers come first, then all 32 branch registers: docs/DECISIONS.md, reading 1.
use Rattle.std.specs.Prelude.{List, [], ◌∷◌, ◌++◌, ℕ, zero, suc, ◌+◌, ◌*◌, get_or}
use Rattle.word.specs.Bytes.{bytes, word_at}
use Rattle.vliw.specs.Cell.{Cell, Registers}

-- where register r stands in the image; the only definition of it
abbrev pub image_offset : ℕ → ℕ
image_offset r = 4 + 10 * r

abbrev pub place_in : List ℕ → ℕ
place_in image = word_at 0 image

-- after the last register
abbrev pub link_in : List ℕ → ℕ
link_in image = word_at (image_offset 288) image

abbrev pub cell_in : List ℕ → ℕ → Cell
cell_in image r =
    record {
      value = word_at (image_offset r) image;
      waiting = word_at (image_offset r + 4) image;
      busy = get_or image (image_offset r + 8) 0;
      landing = get_or image (image_offset r + 9) 0;
    }

-- registers r, r + 1, .., n of them
abbrev pub cells_from : List ℕ → ℕ → ℕ → Registers
cells_from image r zero = []
cells_from image r (suc n) = cell_in image r ∷ cells_from image (suc r) n

unfoldable pub registers_in : List ℕ → Registers
registers_in image = cells_from image 0 288

abbrev pub cell_bytes : Cell → List ℕ
cell_bytes c = bytes 4 c.value ++ (bytes 4 c.waiting ++ (c.busy ∷ c.landing ∷ []))

abbrev pub register_bytes : Registers → List ℕ
register_bytes [] = []
register_bytes (c ∷ cs) = cell_bytes c ++ register_bytes cs

unfoldable pub image_of : ℕ → Registers → ℕ → List ℕ
image_of place cells link = bytes 4 place ++ (register_bytes cells ++ bytes 4 link)
