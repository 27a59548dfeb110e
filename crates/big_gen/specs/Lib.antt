pub mod MadeTexts
