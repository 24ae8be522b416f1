-- The order of streams, inclusion; of streams of at most one value at a point it is to be defined at more points, with the same values where both are.
-- Chains, and what lies within their unions: monotone and continuous functions.
use Rattle.std.specs.Prelude.{◌≡◌, ℕ, suc, List}
use Rattle.lucid_value.specs.Plain.{PlainValue}
use Rattle.lucid_fixed_point.specs.Streams.{Stream, Streams, Map, Meanings}

-- What the first stream has, the second has.
abbrev pub Within : Stream → Stream → Type 0
Within a b = (t s : ℕ) (v : PlainValue) → a t s v → b t s v

abbrev pub EachWithin : Streams → Streams → Type 0
EachWithin a b = (i : ℕ) → Within (a i) (b i)

-- Of more arguments the second map gives all that the first gives. A map that is within itself is monotone.
abbrev pub MapWithin : Map → Map → Type 1
MapWithin f g = (a b : Streams) → EachWithin a b → Within (f a) (g b)

pub record MeaningsWithin (q r : Meanings) : Type 1 where
  pub streams : (n : List ℕ) → Within (q.stream n) (r.stream n)
  pub maps : (n : List ℕ) → MapWithin (q.map n) (r.map n)

-- The same of the same arguments: the order of functions, point by point.
pub record PointsWithin (q r : Meanings) : Type 1 where
  pub streams : (n : List ℕ) → Within (q.stream n) (r.stream n)
  pub maps : (n : List ℕ) (a : Streams) → Within (q.map n a) (r.map n a)

-- Chains, and what lies within their unions.
abbrev pub IsChain : (ℕ → Streams) → Type 0
IsChain a = (k : ℕ) → EachWithin (a k) (a (suc k))

abbrev pub Approached : (ℕ → Stream) → Stream → Type 0
Approached a b = (t s : ℕ) (v : PlainValue) → b t s v → (k : ℕ) × a k t s v

abbrev pub EachApproached : (ℕ → Streams) → Streams → Type 0
EachApproached a b = (i : ℕ) → Approached (λ k. a k i) (b i)

-- A map that the chain of itself alone approaches is continuous.
abbrev pub MapApproached : (ℕ → Map) → Map → Type 1
MapApproached f g = (a : ℕ → Streams) (b : Streams) → IsChain a → EachApproached a b → Approached (λ k. f k (a k)) (g b)

pub record MeaningsApproached (q : ℕ → Meanings) (r : Meanings) : Type 1 where
  pub streams : (n : List ℕ) → Approached (λ k. (q k).stream n) (r.stream n)
  pub maps : (n : List ℕ) → MapApproached (λ k. (q k).map n) (r.map n)

abbrev pub IsChainOfMeanings : (ℕ → Meanings) → Type 1
IsChainOfMeanings q = (k : ℕ) → MeaningsWithin (q k) (q (suc k))

-- All functions are monotone.
abbrev pub IsMonotone : Meanings → Type 1
IsMonotone r = (n : List ℕ) → MapWithin (r.map n) (r.map n)

-- All functions are monotone and continuous: what they give of what lies within the union of a chain, they give of a link.
pub record IsContinuous (r : Meanings) : Type 1 where
  pub monotone : IsMonotone r
  pub continuous : (n : List ℕ) → MapApproached (λ k. r.map n) (r.map n)

-- At most one value at a point.
abbrev pub IsSingle : Stream → Type 0
IsSingle a = (t s : ℕ) (v w : PlainValue) → a t s v → a t s w → v ≡ w

abbrev pub AreSingle : Streams → Type 0
AreSingle a = (i : ℕ) → IsSingle (a i)

abbrev pub MapIsSingle : Map → Type 1
MapIsSingle f = (a : Streams) → AreSingle a → IsSingle (f a)

pub record MeaningsAreSingle (r : Meanings) : Type 1 where
  pub streams : (n : List ℕ) → IsSingle (r.stream n)
  pub maps : (n : List ℕ) → MapIsSingle (r.map n)
