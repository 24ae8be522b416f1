-- Streams, maps of streams, and what names mean. A stream says which values stand at which points: where none stands it is undefined, which others
-- write as a bottom element. What a program denotes has at most one value at a point, which laws say; not each stream has.
use Rattle.std.specs.Prelude.{◌≡◌, ℕ, zero, suc, ◌<◌, Bool, true, false, List, Option, Some, None, ◌↔◌}
use Rattle.lucid_value.specs.Plain.{PlainValue}
use Rattle.lucid_tree.specs.Tree.{Head}
use Rattle.lucid_tree.specs.Rows.{plan, run, Reader}
use Rattle.lucid_tree.specs.Env.{same_name, param}

-- Which values stand at which points.
abbrev pub Stream : Type 1
Stream = (time space : ℕ) → PlainValue → Type 0

-- Those of parts or arguments, by their number.
abbrev pub Streams : Type 1
Streams = (number : ℕ) → Stream

-- What a function is: a stream for the streams of its arguments. Functions are of the first order.
abbrev pub Map : Type 1
Map = Streams → Stream

-- What names mean, as streams and as functions: an environment of denotations.
pub record Meanings : Type 1 where
  pub stream : (name : List ℕ) → Stream
  pub map : (name : List ℕ) → Map

abbrev pub no_stream : Stream
no_stream t s v = ⊥

abbrev pub no_map : Map
no_map a = no_stream

abbrev pub no_meanings : Meanings
no_meanings = record { stream = λ n. no_stream; map = λ n. no_map }

-- The operator of a form: its row gives the value, at some limit, to a reader that reads of the parts only what they have.
pub record Operated (f : Head) (a : Streams) (t s : ℕ) (v : PlainValue) : Type 0 where
  pub limit : ℕ
  pub reader : Reader (Option PlainValue)
  pub reads : (i u r : ℕ) (w : PlainValue) → reader i u r ≡ Some w → a i u r w
  pub value : run (plan limit f t s) reader ≡ Some v

abbrev pub operator : Head → Map
operator f a t s v = Operated f a t s v

-- the same values at the same points
abbrev pub IsSame : Stream → Stream → Type 0
IsSame a b = (t s : ℕ) (v : PlainValue) → a t s v ↔ b t s v

-- one, two and three parts
abbrev pub one : Stream → Streams
one x zero = x
one x (suc i) = no_stream

abbrev pub two : (x y : Stream) → Streams
two x y zero = x
two x y (suc i) = one y i

abbrev pub three : (c x y : Stream) → Streams
three c x y zero = c
three c x y (suc i) = two x y i

-- the stream from time 1 on
abbrev pub later : Stream → Stream
later x t s v = x (suc t) s v

-- the stream at the times below n
abbrev pub cut : (n : ℕ) → Stream → Stream
cut n x t s v = (t < n) × x t s v

abbrev pub chosen : {A : Type 1} → Bool → (yes no : A) → A
chosen true a b = a
chosen false a b = b

abbrev pub numbered_or : {A : Type 1} → Option ℕ → (ℕ → A) → A → A
numbered_or None f a = a
numbered_or (Some i) f a = f i

-- the name means the stream, and is no function; all else means what it did
abbrev pub with_stream : List ℕ → Stream → Meanings → Meanings
with_stream x a r =
    record { stream = λ n. chosen (same_name n x) a (r.stream n); map = λ n. chosen (same_name n x) no_map (r.map n) }

-- the name is the function, and means no stream
abbrev pub with_map : List ℕ → Map → Meanings → Meanings
with_map x f r =
    record { stream = λ n. chosen (same_name n x) no_stream (r.stream n); map = λ n. chosen (same_name n x) f (r.map n) }

-- the parameters mean the streams of the arguments
abbrev pub with_arguments : List (List ℕ) → Streams → Meanings → Meanings
with_arguments ns a r =
    record { stream = λ n. numbered_or (param n ns) a (r.stream n); map = λ n. numbered_or (param n ns) (λ i. no_map) (r.map n) }

-- the same at all times: what the stream has at that one
abbrev pub frozen : Option ℕ → Stream → Stream
frozen None a t s v = ⊥
frozen (Some u) a t s v = a u s v

-- The iterates of a step from nothing, which are a chain where the step is monotone; what some one of them has is their union, the least upper
-- bound. It is the least solution where the step is continuous too: laws say so of each block.
abbrev pub iterate : (Meanings → Meanings) → ℕ → Meanings
iterate f zero = no_meanings
iterate f (suc k) = f (iterate f k)

abbrev pub union_of : (ℕ → Streams) → Streams
union_of a i t s v = (k : ℕ) × a k i t s v

abbrev pub union : (ℕ → Meanings) → Meanings
union q = record { stream = λ n t s v. (k : ℕ) × (q k).stream n t s v; map = λ n a t s v. (k : ℕ) × (q k).map n a t s v }

abbrev pub least : (Meanings → Meanings) → Meanings
least f = union (iterate f)
