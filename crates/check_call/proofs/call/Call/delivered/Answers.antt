use Rattle.std.proofs.Common.{◌≡◌, ◌∙◌, refl, sym, ap, length, true, false}
use Rattle.homa_plain.specs.Wire.{is_client}
use Rattle.check_call.specs.Spots as spots
use Rattle.check_call.specs.Kept.{piece_is_data}
use Rattle.check_call.specs.Calls.{beside, spot_in}
use Rattle.check_call.proofs.CallLaws.{known, data_body, data_asks, data_answers, answers_nothing, no_data, leaves_as, counts_still, counted_hosts}
use Rattle.check_call.proofs.CallLaws.{settled_request, settled_response}
use Rattle.check_call.proofs.call.Call.delivered.Goals as goal

pub asked_more-requires : goal.asked_more-requires
asked_more-requires c =
    c.heard-delivered.ensures.request
    (rw c.spot_in-before.ensures
    (settled_request c.args.packet.now.role (spot_in c.args.self.now c.args.lives) (sym c.is_of_client.ensures ∙ c.if-is_of_client.true) c.requires))

pub answered_more-requires : goal.answered_more-requires
answered_more-requires c =
    c.heard-delivered.ensures.response
    (rw c.spot_in-before.ensures
    (settled_response c.args.packet.now.role (spot_in c.args.self.now c.args.lives) (sym c.is_of_client.ensures ∙ c.if-is_of_client.false) c.requires))

pub returns-then-is_of_client : goal.returns-then-is_of_client
returns-then-is_of_client c v p s gap d st =
    let b = beside p.id.client gap c.args.self.now in
    let two = known v p s c.args.self.now c.args.packet.now c.spot_in-before.result c.args.place c.args.lives c.args.unsched gap
    c.counts-counts.result d c.spot_in-before.ensures st c.counts-counts.ensures in
    let l = c.heard-delivered.ensures.leaves b v p s d.packet two.0 two.1 in
    let said = data_body p.body (length p.payload) c.in-Data.size c.in-Data.offset c.in-Data.len (sym (ap (λ k. k.piece) d.packet) ∙ c.in-Data.is) in
    let role : is_client p.role ≡ true = sym (ap (λ k. is_client k.role) d.packet) ∙ (sym c.is_of_client.ensures ∙ c.if-is_of_client.true) in
    let same = data_asks v p s c.in-Data.size c.in-Data.offset said.0 role in
    leaves_as b p.id c.asked_more.result _ _ (spots.counted_spot v p s) _ _ (spots.due_if_refused v p s) same.0 same.1
    (c.asked_more.ensures v p b (spots.counted_spot v p s) (spots.counted_spot v p s) (spots.due_if_refused v p s) (spots.due_if_refused v p s) d refl said.1 l)

pub returns-then-counts : goal.returns-then-counts
returns-then-counts c v p s gap d st =
    let b = beside p.id.client gap c.args.self.now in
    let two = known v p s c.args.self.now c.args.packet.now c.spot_in-before.result c.args.place c.args.lives c.args.unsched gap
    c.counts-counts.result d c.spot_in-before.ensures st c.counts-counts.ensures in
    let l = c.heard-delivered.ensures.leaves b v p s d.packet two.0 two.1 in
    let said = data_body p.body (length p.payload) c.in-Data.size c.in-Data.offset c.in-Data.len (sym (ap (λ k. k.piece) d.packet) ∙ c.in-Data.is) in
    let role : is_client p.role ≡ false = sym (ap (λ k. is_client k.role) d.packet) ∙ (sym c.is_of_client.ensures ∙ c.if-is_of_client.false) in
    let counts : spots.counts_at v p s ≡ true = sym two.0 ∙ c.if-counts.true in
    let hosts = counted_hosts v p c.args.self.now s d.called counts in
    let same = data_answers v p s c.in-Data.size c.in-Data.offset said.0 role in
    leaves_as b p.id c.answered_more.result _ _ (spots.counted_spot v p s) _ _ (spots.due_if_refused v p s) same.0 same.1
    (c.answered_more.ensures v p b (spots.counted_spot v p s) (spots.counted_spot v p s) (spots.due_if_refused v p s)
    (spots.due_if_refused v p s) d.place d.unsched refl hosts.0 hosts.1 said.1 (counts_still v p s ∙ counts) l)

pub returns-else-counts : goal.returns-else-counts
returns-else-counts c v p s gap d st =
    let b = beside p.id.client gap c.args.self.now in
    let two = known v p s c.args.self.now c.args.packet.now c.spot_in-before.result c.args.place c.args.lives c.args.unsched gap
    c.counts-counts.result d c.spot_in-before.ensures st c.counts-counts.ensures in
    let l = c.heard-delivered.ensures.leaves b v p s d.packet two.0 two.1 in
    let said = data_body p.body (length p.payload) c.in-Data.size c.in-Data.offset c.in-Data.len (sym (ap (λ k. k.piece) d.packet) ∙ c.in-Data.is) in
    let role : is_client p.role ≡ false = sym (ap (λ k. is_client k.role) d.packet) ∙ (sym c.is_of_client.ensures ∙ c.if-is_of_client.false) in
    let not : spots.counts_at v p (spots.counted_spot v p s) ≡ false = counts_still v p s ∙ (sym two.0 ∙ c.if-counts.false) in
    let same = data_answers v p s c.in-Data.size c.in-Data.offset said.0 role in
    let none = answers_nothing v p (spots.counted_spot v p s) c.in-Data.size c.in-Data.offset (spots.due_if_refused v p s) not in
    leaves_as b p.id c.heard-delivered.result _ _ (spots.counted_spot v p s) _ _ (spots.due_if_refused v p s) (sym none.0 ∙ same.0) (sym none.1 ∙ same.1) l

pub returns-in-Unknown : goal.returns-in-Unknown
returns-in-Unknown c v p s gap d st =
    let b = beside p.id.client gap c.args.self.now in
    let two = known v p s c.args.self.now c.args.packet.now c.spot_in-before.result c.args.place c.args.lives c.args.unsched gap
    c.counts-counts.result d c.spot_in-before.ensures st c.counts-counts.ensures in
    let l = c.heard-delivered.ensures.leaves b v p s d.packet two.0 two.1 in
    let none = no_data v p p.body (length p.payload) (spots.counted_spot v p s) (spots.due_if_refused v p s)
    (sym (ap (λ k. piece_is_data k.piece) d.packet) ∙ ap piece_is_data c.in-Unknown.is) in
    leaves_as b p.id c.heard-delivered.result _ _ (spots.counted_spot v p s) _ _ (spots.due_if_refused v p s) (sym none.0) (sym none.1) l

pub returns-in-Other : goal.returns-in-Other
returns-in-Other c v p s gap d st =
    let b = beside p.id.client gap c.args.self.now in
    let two = known v p s c.args.self.now c.args.packet.now c.spot_in-before.result c.args.place c.args.lives c.args.unsched gap
    c.counts-counts.result d c.spot_in-before.ensures st c.counts-counts.ensures in
    let l = c.heard-delivered.ensures.leaves b v p s d.packet two.0 two.1 in
    let none = no_data v p p.body (length p.payload) (spots.counted_spot v p s) (spots.due_if_refused v p s)
    (sym (ap (λ k. piece_is_data k.piece) d.packet) ∙ ap piece_is_data c.in-Other.is) in
    leaves_as b p.id c.heard-delivered.result _ _ (spots.counted_spot v p s) _ _ (spots.due_if_refused v p s) (sym none.0) (sym none.1) l
