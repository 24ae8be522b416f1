-- The keys of what was added, where one thing more is.
use Rattle.lucid_compile.proofs.Common.{◌≡◌, [], ◌∷◌, map, sym, map-append, Note, FunctionStand, Log, with_stand, with_call, with_function, stand_key, call_key, place_key, key_of_function, keys_of, with_name_key, with_function_key, with_call_key}

pub stand-keys : (s : Note) (g : Log) → with_name_key (stand_key s) (keys_of g) ≡ keys_of (with_stand s g)
stand-keys s g = λ j. record {
  names = sym (map-append stand_key g.names (s ∷ [])) j;
  calls = map call_key g.calls;
  places = map place_key g.calls;
  functions = map key_of_function g.functions;
}

pub call-keys : (c : Note) (g : Log) → with_call_key (call_key c) (place_key c) (keys_of g) ≡ keys_of (with_call c g)
call-keys c g = λ j. record {
  names = map stand_key g.names;
  calls = sym (map-append call_key g.calls (c ∷ [])) j;
  places = sym (map-append place_key g.calls (c ∷ [])) j;
  functions = map key_of_function g.functions;
}

pub function-keys : (f : FunctionStand) (g : Log) → with_function_key (key_of_function f) (keys_of g) ≡ keys_of (with_function f g)
function-keys f g = λ j. record {
  names = map stand_key g.names;
  calls = map call_key g.calls;
  places = map place_key g.calls;
  functions = sym (map-append key_of_function g.functions (f ∷ [])) j;
}
