-- What is traced: the value written `error`, or the end of data.
use Rattle.std.specs.Prelude.{Bool, Option, Some, None}
use Rattle.lucid_value.specs.Plain.{PlainValue, int, truth, word, text, list, eod, fault}
use Rattle.lucid_ops.specs.Algebra.{is_eod, is_error}
use Rattle.lucid_explain_errors.specs.declared.traced.Traced.{Traced}
use Rattle.lucid_explain_errors.specs.declared.traced.Traced.TheVariants.{Error, End}

-- the value is what is traced
abbrev pub is_traced : Traced → PlainValue → Bool
is_traced Error v = is_error v
is_traced End v = is_eod v

-- what is traced of a value, if anything
abbrev pub traced_of : PlainValue → Option Traced
traced_of fault = Some Error
traced_of eod = Some End
traced_of (int n) = None
traced_of (truth b) = None
traced_of (word bs) = None
traced_of (text bs) = None
traced_of (list vs) = None
