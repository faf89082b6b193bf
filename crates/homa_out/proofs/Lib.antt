mod KeptLaws
mod FrontLaws
