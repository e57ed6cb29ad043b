mod Whole
