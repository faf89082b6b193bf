-- What the lines before `go` said so far.
use Rattle.std.proofs.Common.{◌≡◌, ◌≤◌, ◌<◌, ℕ, arith, Option, Result, Ok, Err, List, [], ◌∷◌, ◌++◌, length, map, take}
use Rattle.std.proofs.Common.{sym, ap, ◌∙◌}
use Rattle.std.specs.Prelude.{min}
use Rattle.std.proofs.lemmas.List.{take_all, length-take, take-append-le, map-append, length-append, length-map}
use Rattle.homa_plain.specs.declared.fault.ScriptFault.TheVariants.{Setting}
use Rattle.homa_plain.specs.declared.settings.Settings.{Settings}
use Rattle.homa_plain.specs.declared.settings.SettingFault.{SettingFault}
use Rattle.homa_plain.specs.Settings.{verdict}
use Rattle.node_runs.specs.Script as script
use Rattle.node_runs.specs.Script.{setup_of, setup_by, places_in}
use Rattle.node_script.specs.declared.place.Naming.{Naming}
use Rattle.node_script.specs.declared.head.Head.{Head}
use Rattle.node_script.specs.Setup.{naming_seen}
use Rattle.node_script.specs.Heads.{IsHead}
use Rattle.node_script.proofs.Placing.{front_places}

-- there is room for one more
pub named_on : (kept : List Naming) (all : List script.Naming) (m : Naming) → map naming_seen kept ≡ take 33 all → length kept < 33
    → map naming_seen (kept ++ m ∷ []) ≡ take 33 (all ++ naming_seen m ∷ [])
named_on kept all m e h =
    let size : length kept ≡ min 33 (length all) = sym (length-map kept naming_seen) ∙ (ap length e ∙ length-take 33 all) in
    let few : length all ≤ 32 = omega (arith, size) in
    let more = length-append all (naming_seen m ∷ []) in
    map-append naming_seen kept (m ∷ [])
    ∙ (ap (λ (xs : List script.Naming). xs ++ naming_seen m ∷ []) (e ∙ take_all 33 all (omega (arith, few)))
    ∙ sym (take_all 33 (all ++ naming_seen m ∷ []) (omega (arith, few, more))))

-- there is none
pub named_full : (kept : List Naming) (all : List script.Naming) (m : script.Naming) → map naming_seen kept ≡ take 33 all → 33 ≤ length kept
    → map naming_seen kept ≡ take 33 (all ++ m ∷ [])
named_full kept all m e h =
    let size : length kept ≡ min 33 (length all) = sym (length-map kept naming_seen) ∙ (ap length e ∙ length-take 33 all) in
    e ∙ sym (take-append-le 33 all (m ∷ []) (omega (arith, size)))

-- ---- `go`

-- the settings aren't valid
pub setup_not : (h : Head) (head : script.Head) (fault : SettingFault) → IsHead h head → Err fault ≡ verdict h.settings → setup_of head ≡ Err (Setting fault)
setup_not h head fault is e =
    ap (λ (v : Result (Unit {0}) SettingFault). elim v [
      | Err f ↦ Err (Setting f)
      | Ok u ↦ setup_by head.settings
          (places_in head.settings.hosts head.named) head.end head.turns
    ]) (ap verdict (sym is.settings) ∙ sym e)

-- they are, and the rest decides
pub setup_due : (h : Head) (head : script.Head) (u : Unit {0}) (places : Option (List script.Place)) (end turns : Option ℕ) → IsHead h head
    → Ok u ≡ verdict h.settings → h.settings.hosts ≤ 32 → places ≡ places_in h.settings.hosts (map naming_seen h.named.items) → end ≡ h.end
    → turns ≡ h.turns
    → setup_of head ≡ setup_by h.settings places end turns
setup_due h head u places end turns is e few p f g =
    let hosts : head.settings.hosts ≡ h.settings.hosts = ap (λ (s : Settings). s.hosts) (sym is.settings) in
    let all : places_in head.settings.hosts head.named ≡ places = ap (λ n. places_in n head.named) hosts
    ∙ (sym (front_places h.settings.hosts head.named few) ∙ (ap (places_in h.settings.hosts) (sym is.named) ∙ sym p)) in
    ap (λ (v : Result (Unit {0}) SettingFault). elim v [
      | Err f ↦ Err (Setting f)
      | Ok w ↦ setup_by head.settings
          (places_in head.settings.hosts head.named) head.end head.turns
    ]) (ap verdict (sym is.settings) ∙ sym e)
    ∙ (ap (λ (s : Settings). setup_by s (places_in head.settings.hosts head.named) head.end head.turns) (sym is.settings)
    ∙ (ap (λ o. setup_by h.settings o head.end head.turns) all
    ∙ (ap (λ o. setup_by h.settings places o head.turns) (sym is.end ∙ sym f) ∙ ap (λ o. setup_by h.settings places end o) (sym is.turns ∙ sym g))))
