-- What serde_json says of bytes, arrays and objects, in the words of the specs.
use Rattle.std.proofs.Common.{◌≡◌, ℕ, List, [], ◌∷◌, map, refl, ap, Option, Some, None, Bool, true, false, cond, ◌&&◌, sym, Vec, Bor, option_map, String, Global, string_bytes}
use Rattle.std.proofs.lemmas.Str.{is_utf8-from_IsUtf8, IsUtf8-from_is_utf8}
use Rattle.std.specs.Str.{IsUtf8, is_utf8}
use Rattle.serde_json.specs.Data.{Data}
use Rattle.serde_json.specs.Read.{read}
use Rattle.serde_json.specs.Find.{as_array}
use Rattle.serde_json.specs.View.{view, items_of, items_view, members_view}
use Rattle.serde_json.specs.declared.value.Value.{Value}
use Rattle.json_look.specs.Json.{list_of, json_of, array_of, all_named}

pub list_of-items_of : (ds : List Data) → list_of (items_of ds) ≡ ds
list_of-items_of [] = refl
list_of-items_of (d ∷ ds) = ap (λ (es : List Data). d ∷ es) (list_of-items_of ds)

pub json_of-text : (bytes : List ℕ) (d : Data) → IsUtf8 bytes → read bytes ≡ Some d → json_of bytes ≡ Some d
unfolding json_of
json_of-text bytes d text e = rw (is_utf8-from_IsUtf8 bytes text) e

pub json_of-none : (bytes : List ℕ) → (IsUtf8 bytes → read bytes ≡ None) → json_of bytes ≡ None
unfolding json_of
json_of-none bytes refused =
    elim (is_utf8 bytes) as (λ b. is_utf8 bytes ≡ b → cond b (read bytes) None ≡ None)
    [ true ↦ λ e. refused (IsUtf8-from_is_utf8 bytes e) | false ↦ λ e. refl ] refl

pub array_of-seen : (values : Option (Bor (Vec Value Global))) (d : Data)
    → option_map (λ v. items_view v.now.items) values ≡ as_array d → option_map (λ v. map view v.now.items) values ≡ array_of d
unfolding array_of
array_of-seen None d e = rw (← e)
array_of-seen (Some v) d e = rw (← e) (ap Some (sym (list_of-items_of (map view v.now.items))))

-- the test holds of all keys
abbrev pub keys_pass : (List ℕ → Bool) → List (String Global) → Bool
keys_pass test [] = true
keys_pass test (k ∷ ks) = test (string_bytes k) && keys_pass test ks

pub all_named-members : (test : List ℕ → Bool) (es : List (String Global × Value)) → all_named test (members_view es) ≡ keys_pass test (map (λ e. e.0) es)
all_named-members test [] = refl
all_named-members test (e ∷ es) = ap (λ b. test (string_bytes e.0) && b) (all_named-members test es)
