use Rattle.homa_plain.specs.Grants.{sender, choice_key}
use Rattle.homa_plain.proofs.ChoiceLaws.{few-chosen, differ-chosen, chosen-contains, left_out, chosen-permuted, chosen-map}
use Rattle.plain_laws.proofs.grants.choices.Goals as goal

pub returns-clause-few : goal.returns-clause-few
returns-clause-few g c = λ message. few-chosen (λ x. sender (message x)) (λ x. choice_key (message x))

pub returns-clause-differ : goal.returns-clause-differ
returns-clause-differ g c = λ message. differ-chosen (λ x. sender (message x)) (λ x. choice_key (message x))

pub returns-clause-some : goal.returns-clause-some
returns-clause-some g c = λ message. chosen-contains (λ x. sender (message x)) (λ x. choice_key (message x))

pub returns-clause-left_out : goal.returns-clause-left_out
returns-clause-left_out g c = λ message. left_out (λ x. sender (message x)) (λ x. choice_key (message x))

pub returns-clause-any_order : goal.returns-clause-any_order
returns-clause-any_order g c = λ message. chosen-permuted (λ x. sender (message x)) (λ x. choice_key (message x))

pub returns-clause-mapped : goal.returns-clause-mapped
returns-clause-mapped g c from from' key key' f same alike = chosen-map from from' f same key key' alike
