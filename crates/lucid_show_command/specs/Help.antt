-- The texts of the command: its help and its version.
use Rattle.std.specs.Prelude.{ℕ, List, [], ◌∷◌, codes}
use Rattle.std.specs.List.{concat}

unfoldable pub help_text : List ℕ
help_text = concat
    (codes "lucid_show shows what a value of a pLucid program was computed from, or a run step by step.\n"
    ∷ codes "usage: lucid_show [--at T] [--as outline|grid|svg] [--depth N] [--names LIST] [--cells N] PROGRAM [NAME=FILE]... | "
    ∷ codes "lucid_show --steps [--count N] [--policy keep|none|age|last] [--age K] [--room N] [--depth N] [--cells N] PROGRAM [NAME=FILE]...\n"
    ∷ codes "PROGRAM is the name of a file with a program, as `n where n = 0 fby n + 1; end`.\n"
    ∷ codes "NAME=FILE gives the lines of a file as the values of an input of this name.\n"
    ∷ codes "--at T shows the value at time T: at time 4 where it isn't given.\n"
    ∷ codes "--as FORM shows lines one under another (outline, as where it isn't given), a grid of text (grid), or a picture with arrows (svg).\n"
    ∷ codes "--depth N is the depth limit, from 1 to 1,000,000: 100,000 where it isn't given.\n"
    ∷ codes "--names LIST shows the values of these names alone, parted by commas, as `f,g`.\n"
    ∷ codes "--cells N shows N lines below the first, or N values, at most, from 1 to 1,000,000: 2,000 where it isn't given.\n"
    ∷ codes "--steps shows a run: which values are computed, found in the store and dropped, and the lines that are written.\n"
    ∷ codes "--count N, --policy WORD, --age K and --room N are those of lucid, for --steps alone.\n"
    ∷ codes "`man lucid_show` tells how a line is read, and TUTORIAL.md teaches the language.\n"
    ∷ [])

abbrev pub version_text : List ℕ
version_text = codes "lucid_show 0.1.0\n"
