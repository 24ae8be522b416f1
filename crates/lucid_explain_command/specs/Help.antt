-- The texts of the command: its help and its version.
use Rattle.std.specs.Prelude.{ℕ, List, codes}

abbrev pub help_text : List ℕ
help_text = codes "lucid_explain runs a pLucid program as lucid does, and explains what is wrong with it.\nusage: lucid_explain [options] PROGRAM [NAME=FILE]... | lucid_explain [options] --make N\nPROGRAM is the name of a file with a program, as `n where n = 0 fby n + 1; end`.\nNAME=FILE gives the lines of a file as the values of an input of this name.\n--count N writes N lines at most, from 1 to 1000000: 20 where it isn't given.\n--depth N is the depth limit, from 1 to 1000000: 100000 where it isn't given.\nThe other options are those of lucid: `man lucid` has them, and LANGUAGE.md the language.\nTUTORIAL.md teaches it from the beginning. ERRORS.md has all reports.\n"

abbrev pub version_text : List ℕ
version_text = codes "lucid_explain 0.1.0\n"
