pub mod MadeLaws
mod EndLaws
