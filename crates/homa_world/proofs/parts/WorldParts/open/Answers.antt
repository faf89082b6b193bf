use Rattle.std.proofs.Common.{refl, rules}
use Rattle.homa_world.proofs.FirstLaws.{first_stands, first_kept}
use Rattle.homa_world.proofs.parts.WorldParts.open.Goals as goal

pub returns-clause-opened : goal.returns-clause-opened
returns-clause-opened g c = record {
  first = first_stands _ _ c.args.settings.now c.args.services.items c.requires.boxes.valid c.requires.boxes.enough c.requires.boxes.at_most
      c.requires.none c.requires.start refl (c.in_ok-vec.ensures.items_if_clones_equal (λ y clone. search rules)) c.in_ok-open.ensures.known
      c.in_ok-open.ensures.seated.seats c.in_ok-open.ensures.seated.spares c.open-2.ensures.none c.open-2.ensures.settings refl;
  settings = refl;
  applied = refl;
}

pub returns-clause-kept : goal.returns-clause-kept
returns-clause-kept g c = first_kept _ _ c.args.settings.now c.args.services.items c.requires.boxes.valid c.requires.boxes.enough
    c.requires.boxes.at_most c.requires.none c.requires.start refl (c.in_ok-vec.ensures.items_if_clones_equal (λ y clone. search rules))
    c.in_ok-open.ensures.known c.in_ok-open.ensures.seated.seats c.in_ok-open.ensures.seated.spares c.open-2.ensures.none c.open-2.ensures.settings refl
