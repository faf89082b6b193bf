-- What was said fits together.
use Rattle.std.proofs.Common.{◌∙◌, sym}
use Rattle.experiment.specs.Drafts.{drafting}
use Rattle.experiment.proofs.FitLaws.{are_fit}
use Rattle.experiment.proofs.draft.Draft.experiment.Goals as goal

pub invariant_of-result : goal.invariant_of-result
invariant_of-result c =
    let fit = are_fit (drafting c.args.self) (sym c.in_ok-check.ensures) in
    let h = c.args.self.happenings in
    record {
      valid = fit.valid;
      hosts_least = fit.valid.in_range.0;
      hosts_most = fit.valid.in_range.1;
      seg_least = fit.valid.in_range.2.0;
      seg_most = fit.valid.in_range.2.1;
      restarting = fit.restarts;
      restarts_most = h.restarts_most;
      clients = fit.clients;
      servers = fit.servers;
      injected = fit.injections;
      shifted = fit.shifts;
      within_skew = fit.skew;
      restarts_within = h.restarts_within;
      calls_within = h.listed_within;
      injections_within = h.injections_within;
      shifts_within = h.shifts_within;
      incast = rw c.load-load.ensures.incast fit.incast;
      hot = λ k e. fit.hot k (sym c.load-load.ensures.named ∙ e);
    }
